-- A lent buffer that was written from its front: what it holds there, what behind it, and how long it is.
use mathlib.Core.Path.{◌≡◌, ap, ◌∙◌}
use mathlib.Core.List.{List}
use Prim.Native.Nat.{ℕ, ◌-◌, ◌≤◌, ◌<◌}
use native.Mathlib.Omega.{arith}
use lib.ListN.{length, get_or, take, drop, length-append, get_or-append}
use lib.Seq.{take_at, drop_at}
use Rattle.lists.specs.Grow.{front, tab}
use Rattle.lists.proofs.Grow.{length-grow, get_d_tab}

module _ {A : Type 0} where
  pub front_at : (new old : List A) (k : ℕ) (d : A) → k < length new → get_or (front new old) k d ≡ get_or new k d
  front_at new old k d h = get_or-append new (drop (length new) old) d k h

  pub front-tab : (f : ℕ → A) (m : ℕ) (old : List A) (k : ℕ) (d : A) → k < m → get_or (front (tab f m) old) k d ≡ f k
  front-tab f m old k d h = front_at (tab f m) old k d (omega (arith, length-grow (λ (l : List A). f (length l)) m)) ∙ get_d_tab f m k d h

  pub front_tall : (new old : List A) (m : ℕ) → m ≤ length new → m ≤ length (front new old)
  front_tall new old m h = rw (length-append new (drop (length new) old)) (omega arith)

  -- the part that was written, and as it arrives where it is lent on
  pub front_part : {l : List A} (new old : List A) (m : ℕ) → l ≡ front new old → length new ≡ m → take m l ≡ new
  front_part new old m e h = ap (take m) e ∙ take_at new (drop (length new) old) m h

  pub front_lent : {l : List A} (new old : List A) (m : ℕ) → l ≡ front new old → length new ≡ m → take (m - 0) l ≡ new
  front_lent new old m e h = let z : m - 0 ≡ m = omega arith in rw z (front_part new old m e h)

  -- behind it the buffer is as it was
  pub front_behind : {l : List A} (new old : List A) (m : ℕ) → l ≡ front new old → length new ≡ m → drop m l ≡ drop m old
  front_behind new old m e h = ap (drop m) e ∙ drop_at new (drop (length new) old) m h ∙ ap (λ (k : ℕ). drop k old) h

  pub tab_behind : {l : List A} (f : ℕ → A) (m : ℕ) (old : List A) → l ≡ front (tab f m) old → drop m l ≡ drop m old
  tab_behind f m old e = front_behind (tab f m) old m e (length-grow (λ (r : List A). f (length r)) m)
