-- Document 01, "House files": the tags.
use Rattle.std.specs.Prelude.{ℕ}
use Rattle.fields.specs.declared.tag.Tag.{Tag}
use Rattle.fields.specs.declared.tag.Tag.TheVariants.{Version, Sinks, Joins, Places, Wires}

-- "Tag 1: version", "Tag 2: x and y", "Tag 3: pairs", "Tag 4: U and V", "Tag 5: wire to parent"
abbrev pub tag_number : Tag → ℕ
tag_number Version = 1
tag_number Sinks = 2
tag_number Joins = 3
tag_number Places = 4
tag_number Wires = 5
