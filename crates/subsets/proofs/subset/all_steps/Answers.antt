use mathlib.Core.Path.{◌≡◌, refl}
use mathlib.Core.List.{List, [], ◌∷◌}
use Prim.Native.Nat.{ℕ, zero, suc, ◌≤◌}
use native.Mathlib.Omega.{arith}
use lib.ListN.{get_or}
use Rattle.subsets.specs.Best.{step_count}
use Rattle.subsets.proofs.subset.all_steps.Goals as goal

abbrev counts : List ℕ
counts = 0 ∷ 0 ∷ 1 ∷ 6 ∷ 25 ∷ 90 ∷ 301 ∷ 966 ∷ 3025 ∷ 9330 ∷ 28501 ∷ 86526 ∷ 261625 ∷ []

right : (n : ℕ) → n ≤ 12 → get_or counts n 0 ≡ step_count n
right zero h = refl
right (suc zero) h = refl
right (suc (suc zero)) h = refl
right (suc (suc (suc zero))) h = refl
right (suc (suc (suc (suc zero)))) h = refl
right (suc (suc (suc (suc (suc zero))))) h = refl
right (suc (suc (suc (suc (suc (suc zero)))))) h = refl
right (suc (suc (suc (suc (suc (suc (suc zero))))))) h = refl
right (suc (suc (suc (suc (suc (suc (suc (suc zero)))))))) h = refl
right (suc (suc (suc (suc (suc (suc (suc (suc (suc zero))))))))) h = refl
right (suc (suc (suc (suc (suc (suc (suc (suc (suc (suc zero)))))))))) h = refl
right (suc (suc (suc (suc (suc (suc (suc (suc (suc (suc (suc zero))))))))))) h = refl
right (suc (suc (suc (suc (suc (suc (suc (suc (suc (suc (suc (suc zero)))))))))))) h = refl
right (suc (suc (suc (suc (suc (suc (suc (suc (suc (suc (suc (suc (suc k))))))))))))) h = absurd (omega arith)

pub returns : goal.returns
returns c = right c.args.n c.requires
