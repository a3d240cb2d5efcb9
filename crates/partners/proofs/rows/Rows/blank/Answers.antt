use mathlib.Core.Path.{refl}
use Prim.Native.Nat.{ℕ}
use Rattle.std.proofs.lemmas.List.{get_or-replicate}
use Rattle.measures.specs.Measures.{kept_as}
use Rattle.partners.proofs.rows.Rows.blank.Goals as goal

pub returns : goal.returns
returns c = λ t h. rw (get_or-replicate 512 t (kept_as 0) (kept_as 0) h, get_or-replicate {A = ℕ} 512 t 0 0 h) refl
