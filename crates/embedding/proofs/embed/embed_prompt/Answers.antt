use Prim.Native.Nat.{ℕ}
use lib.ListN.{length}
use Rattle.std.proofs.lemmas.List.{take-replicate}
use Rattle.embedding.proofs.embed.embed_prompt.Goals as goal

pub embed_into-requires : goal.embed_into-requires
embed_into-requires c = rw (take-replicate {X = ℕ} (length c.args.xs.now) 512 0 c.requires.sound.joins.few) c.requires

pub returns : goal.returns
returns c = rw (take-replicate {X = ℕ} (length c.args.xs.now) 512 0 c.requires.sound.joins.few) at c.embed_into.ensures
