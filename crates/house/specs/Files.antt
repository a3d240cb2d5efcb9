-- Document 01, "House files": sink files and joined files as bytes. "Writers take sinks and joins and work out the rest." Document 02, Q-7: "Files of version 1 mean w = 0, and their writers take no delays."
use Rattle.std.specs.Prelude.{List, [], ◌∷◌, ℕ, ℤ}
use Rattle.fields.specs.Fields.{fields, version, places, numbers}

-- "A sink file has tags 1, 2"
unfoldable pub sink_file : List ℤ → List ℤ → List ℕ
sink_file xs ys = fields 1 (version ∷ places xs ys ∷ [])

-- "a joined file 1 to 3"
unfoldable pub joined_file : List ℤ → List ℤ → List ℕ → List ℕ
joined_file xs ys js = fields 1 (version ∷ places xs ys ∷ numbers 2 js ∷ [])
