use native.Mathlib.Omega.{arith}
use Rattle.embedding.proofs.Spots.{flat, sinks_more}
use Rattle.embedding.proofs.places.sink_places.Goals as goal

pub root_spot-s-requires : goal.root_spot-s-requires
root_spot-s-requires c = flat (c.requires.0 c.loop-k.k c.loop-k-test.true) c.place_at.ensures

pub loop-k-preserved : goal.loop-k-preserved
loop-k-preserved c =
    let f = (flat (c.requires.0 c.loop-k.k c.loop-k-test.true) c.place_at.ensures).0 in
    sinks_more f c.place_at.ensures c.root_spot-s.ensures (omega (arith, c.loop-k-test.true, c.requires.1, c.loop-k.auto.us), omega (arith, c.loop-k-test.true, c.requires.2, c.loop-k.auto.vs)) c.loop-k.invariant c.put_spot.ensures
