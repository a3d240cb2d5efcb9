-- Document 02, Q-7: "Totals .. stay below 3,072,000,000." Document 01, "Numbers of this trade", where no sink has a delay: "A total never passes 2,048,000,000."
use mathlib.Core.Path.{◌≡◌, sym, subst}
use mathlib.Core.List.{List, [], ◌∷◌, Memᴰ}
use Prim.Native.Nat.{ℕ, zero, suc, ◌+◌, ◌-◌, ◌*◌, ◌≤◌, ◌<◌}
use native.Mathlib.Nat.{mul-suc}
use native.Mathlib.Omega.{arith}
use lib.IntN.{ℤ}
use lib.ListN.{length}
use Rattle.lists.specs.Grow.{sum_to}
use Rattle.lists.proofs.Sums.{sum_over}
use Rattle.lists.proofs.Zeros.{zeros}
use Rattle.zero_skew.specs.Plane.{Sinks}
use Rattle.zero_skew.specs.Box.{diameter}
use Rattle.zero_skew.proofs.Lemma1.{diam_met, diam_none}
use Rattle.plane.specs.Sinks.{sinks_at, prompt, check_sinks, Ranged}
use Rattle.std.specs.Prelude.{Ok}
use Rattle.plane.proofs.Checks.{both_pass, accepted, fitting}
use Rattle.plane.proofs.Spread.{Spread, far, diameter_spread, ranged_spread}
use Rattle.orders.specs.Nodes.{below, d, total}
use Rattle.orders.specs.Joins.{check_joins, check_order}
use Rattle.orders.specs.Sound.{Ordered, Sound}
use Rattle.orders.proofs.Accepted.{joins-valid}
use Rattle.orders.proofs.Joined.{is_sink}

sum_up_to : (b : ℕ) (f : ℕ → ℕ) (m : ℕ) → ((i : ℕ) → i < m → f i ≤ b) → sum_to f m ≤ b * m
sum_up_to b f zero h = omega arith
sum_up_to b f (suc m) h = rw (mul-suc b m) (omega (arith, h m (omega arith), sum_up_to b f m (λ i l. h i (omega arith))))

module _ (s : Sinks) (js : List ℕ) (o : Ordered s.n js) {m w : ℕ} (r : Spread s m w) where
  -- the root's diameter, but for the delays
  root_bounded : (l : List ℕ) → ((i : ℕ) → Memᴰ i l → i < s.n) → diameter s l ≤ 4 * m + 2 * sum_to s.wait s.n
  root_bounded [] u = rw (diam_none s) (omega arith)
  root_bounded (h ∷ l) u =
      let (i, j, p, q, e) = diam_met s h l in
      rw e (omega (arith, far r i j, sum_over s.wait s.n i (u i p), sum_over s.wait s.n j (u j q)))

  -- which come off the total again
  total_up_to : total s js ≤ (4 * m + 2 * w) * (s.n - 1) + 4 * m
  total_up_to =
      omega (
        arith,
        sum_up_to (4 * m + 2 * w) (λ i. d s js (s.n + i)) (s.n - 1) (λ i h. diameter_spread r (below s.n js (s.n + i))),
        root_bounded (below s.n js (2 * s.n - 2)) (is_sink s js o (2 * s.n - 2) (omega (arith, o.some))),
      )

pub total_bounded : {xs ys : List ℤ} {delays js : List ℕ} → Ranged xs ys delays → Ordered (length xs) js → total (sinks_at xs ys delays) js < 3072000000
total_bounded {xs} {ys} {delays} {js} r o =
    omega (arith, o.some, o.few, total_up_to (sinks_at xs ys delays) js o (ranged_spread 1000000 r.early r))

pub prompt_bounded : {xs ys : List ℤ} {js : List ℕ} → Ranged xs ys (prompt xs) → Ordered (length xs) js → total (sinks_at xs ys (prompt xs)) js ≤ 2048000000
prompt_bounded {xs} {ys} {js} r o =
    omega (arith, o.some, o.few, total_up_to (sinks_at xs ys (prompt xs)) js o (ranged_spread 0 (λ i. omega (arith, zeros (length xs) i)) r))

-- the same of a list of delays that has nothing but 0
pub no_delay_bounded : {xs ys : List ℤ} {delays js : List ℕ} → delays ≡ prompt xs → Ranged xs ys delays → Ordered (length xs) js → total (sinks_at xs ys delays) js ≤ 2048000000
no_delay_bounded {xs} {ys} {delays} {js} e =
    subst (λ (l : List ℕ). Ranged xs ys l → Ordered (length xs) js → total (sinks_at xs ys l) js ≤ 2048000000) (sym e) (λ r o. prompt_bounded r o)

-- so what a call's check accepts, the code can embed
pub sound : {xs ys : List ℤ} {delays js : List ℕ} → Ranged xs ys delays → Ordered (length xs) js → Sound xs ys delays js
sound r o = record { sinks = fitting r; joins = o; low = omega (arith, total_bounded r o) }

pub order-ranged : (xs ys : List ℤ) (delays js : List ℕ) → check_order xs ys delays js ≡ Ok tt → Ranged xs ys delays × Ordered (length xs) js
unfolding check_order
order-ranged xs ys delays js e =
    let (p, q) = both_pass (check_sinks 512 xs ys delays) (check_joins (length xs) js) e in
    let m = accepted 512 xs ys delays p in
    (m.ranged, record { some = m.some; few = m.few; valid = joins-valid (length xs) js q })

pub order-sound : (xs ys : List ℤ) (delays js : List ℕ) → check_order xs ys delays js ≡ Ok tt → Sound xs ys delays js
order-sound xs ys delays js e =
    let (r, o) = order-ranged xs ys delays js e in
    sound r o
