use mathlib.Core.Path.{◌∙◌}
use native.Mathlib.Omega.{arith}
use Rattle.embedding.proofs.Whole.{all_sized, climbs, embeds}
use Rattle.embedding.proofs.embed.embed_with.Goals as goal

pub join_places-requires : goal.join_places-requires
join_places-requires g c = (omega (arith, c.requires.2), (all_sized _ c.put_nodes-total.ensures.0 c.requires.1 (omega (arith, c.requires.2)), c.requires.0.room_u, c.requires.0.room_v))

pub write_wires-requires : goal.write_wires-requires
write_wires-requires g c = (omega (arith, c.requires.2), (climbs _ c.put_nodes-total.ensures.0 c.requires.1, c.requires.0.room_w))

pub returns-clause-embeds : goal.returns-clause-embeds
returns-clause-embeds g c =
    embeds c.requires.0 c.put_nodes-total.ensures.0 c.put_nodes-total.ensures.1 (c.sink_places.auto.us ∙ c.join_places.auto.us) (c.sink_places.auto.vs ∙ c.join_places.auto.vs) c.join_places.ensures c.sink_places.ensures c.write_wires.ensures
