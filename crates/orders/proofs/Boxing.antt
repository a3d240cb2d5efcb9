-- The list of boxes: what a write changes.
use mathlib.Core.Path.{◌≡◌}
use mathlib.Core.List.{List}
use Prim.Native.Nat.{ℕ, ◌<◌}
use native.Mathlib.Omega.{arith}
use lib.ListN.{length, set}
use lib.Seq.{get_or-set_same, get_or-set_other}
use Rattle.measures.specs.Boxes.{blank}
use Rattle.measures.specs.declared.boxes.Box.{Box}
use Rattle.orders.specs.Table.{box_at}

pub put_here : (bs : List Box) {bs' : List Box} (k : ℕ) (b : Box) → bs' ≡ set bs k b → k < length bs → box_at bs' k ≡ b
put_here bs k b e h = rw e (get_or-set_same bs k b blank h)

pub put_before : (bs : List Box) {bs' : List Box} (k : ℕ) (b : Box) → bs' ≡ set bs k b → (i : ℕ) → i < k → box_at bs' i ≡ box_at bs i
put_before bs k b e i h = rw e (get_or-set_other bs k i b blank (λ q. omega arith))
