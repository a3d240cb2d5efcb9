-- What a call says, as six numbers: the refusal's number (0: accepted), whether it has a place, the place, a value, the steps, and whether proven.
use Rattle.std.specs.Prelude.{Bool, true, false, List, [], ◌∷◌, ℕ, Option, Some, None, Result}
use Rattle.plane.specs.Refusals.{number, place}
use Rattle.plane.specs.Said.{Said, told}
use Rattle.plane.specs.Said.Said.{answered, refused}
use Rattle.plane.specs.declared.refusal.Refusal.{Refusal}
use Rattle.search.specs.declared.search.Found.{Found}

-- place 0 and "none" differ in the second number
abbrev pub placed_words : ℕ → Option ℕ → List ℕ
placed_words n None = n ∷ 0 ∷ 0 ∷ 0 ∷ 0 ∷ 0 ∷ []
placed_words n (Some i) = n ∷ 1 ∷ i ∷ 0 ∷ 0 ∷ 0 ∷ []

abbrev pub words : {A : Type 0} → (A → List ℕ) → Said A → List ℕ
words values (answered a) = 0 ∷ 0 ∷ 0 ∷ values a
words values (refused n place) = placed_words n place

-- ---- the values, as the last three numbers
abbrev pub no_value : {A : Type 0} → A → List ℕ
no_value a = 0 ∷ 0 ∷ 0 ∷ []

-- a total, or how many bytes, or how many sinks
abbrev pub one_value_word : ℕ → List ℕ
one_value_word n = n ∷ 0 ∷ 0 ∷ []

abbrev pub mark_word : Bool → ℕ
mark_word true = 1
mark_word false = 0

-- total, steps and mark
abbrev pub found_values : Found → List ℕ
found_values f = f.total ∷ f.steps ∷ mark_word f.proven ∷ []

-- ---- what each answer says
abbrev pub refusal_words : Refusal → List ℕ
refusal_words r = placed_words (number r) (place r)

abbrev pub answer_words : {A : Type 0} → (A → List ℕ) → Result A Refusal → List ℕ
answer_words values r = words values (told r)
