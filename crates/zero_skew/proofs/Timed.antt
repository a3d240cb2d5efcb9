-- Zero skew by one arrival time, as the proofs go down a tree with it: the arrivals are equal where all are one `total`.
use mathlib.Core.Path.{◌≡◌, refl}
use mathlib.Core.Logic.{⊎_elim}
use mathlib.Core.List.Memᴰ
use mathlib.Core.List.{Memᴰ, map}
use Prim.Native.Nat.{ℕ, ◌+◌, ◌*◌, ◌≤◌, ◌<◌}
use native.Mathlib.Omega.{arith}
use Rattle.zero_skew.specs.Plane.{Sinks}
use Rattle.zero_skew.specs.Tree.{Tree, leaf, join, leaves, count, AtSinks, Reaches, arrivals, ZeroSkew}

-- with `before` of wire above the tree, the clock is at each of its sinks after `total`
abbrev pub Hears : Sinks → ℕ → ℕ → ℕ → Tree → Type 0
Hears s k total before (leaf i p) = before + k * s.wait i ≡ total
Hears s k total before (join p a l b r) = Hears s k total (before + a) l × Hears s k total (before + b) r

pub record Timed (s : Sinks) (k : ℕ) (t : Tree) : Type 0 where
  pub total : ℕ
  pub at_sinks : AtSinks s k t
  pub reaches : Reaches t
  pub hears : Hears s k total 0 t
  pub once : (i : ℕ) → i < s.n → count i (leaves t) ≡ 1
  pub no_other : (i : ℕ) → s.n ≤ i → count i (leaves t) ≡ 0

module _ (s : Sinks) (k : ℕ) where
  some_arrival : (t : Tree) → (p : ℕ) × Memᴰ p (arrivals s k t)
  unfolding arrivals
  some_arrival (leaf i p) = (k * s.wait i, Memᴰ.head refl)
  some_arrival (join p a l b r) = let (q, m) = some_arrival l in (a + q, Memᴰ.append_left (map (λ x. b + x) (arrivals s k r)) (Memᴰ.map (λ x. a + x) m))

  all_hear : (t : Tree) (total before : ℕ) → ((p : ℕ) → Memᴰ p (arrivals s k t) → before + p ≡ total) → Hears s k total before t
  unfolding arrivals
  all_hear (leaf i p) total before each = each (k * s.wait i) (Memᴰ.head refl)
  all_hear (join p a l b r) total before each = (
    all_hear l total (before + a) (λ q m. omega (arith, each (a + q) (Memᴰ.append_left (map (λ x. b + x) (arrivals s k r)) (Memᴰ.map (λ x. a + x) m)))),
    all_hear r total (before + b) (λ q m. omega (arith, each (b + q) (Memᴰ.append_right (map (λ x. a + x) (arrivals s k l)) (Memᴰ.map (λ x. b + x) m)))),
  )

  pub heard : (t : Tree) (total before : ℕ) → Hears s k total before t → (p : ℕ) → Memᴰ p (arrivals s k t) → before + p ≡ total
  unfolding arrivals
  heard (leaf i p) total before h q m = rw (Memᴰ.eq_of_singleton m) h
  heard (join p a l b r) total before h q m =
      ⊎_elim
      (λ ml. let (x, mx, e) = Memᴰ.of_map (λ x. a + x) (arrivals s k l) ml in omega (arith, heard l total (before + a) h.0 x mx))
      (λ mr. let (x, mx, e) = Memᴰ.of_map (λ x. b + x) (arrivals s k r) mr in omega (arith, heard r total (before + b) h.1 x mx))
      (Memᴰ.append_cases (map (λ x. a + x) (arrivals s k l)) m)

  pub level : (t : Tree) → ZeroSkew s k t → Timed s k t
  level t z =
      let (p, m) = some_arrival t in
      record {
        total = p;
        at_sinks = z.at_sinks;
        reaches = z.reaches;
        hears = all_hear t p 0 (λ q h. omega (arith, z.equal q p h m));
        once = z.once;
        no_other = z.no_other;
      }

  pub unlevel : (t : Tree) → Timed s k t → ZeroSkew s k t
  unlevel t z =
      record {
        at_sinks = z.at_sinks;
        reaches = z.reaches;
        equal = λ p q mp mq. omega (arith, heard t z.total 0 z.hears p mp, heard t z.total 0 z.hears q mq);
        once = z.once;
        no_other = z.no_other;
      }
