use native.Mathlib.Omega.{arith}
use Rattle.embedding.proofs.Spots.{down_begin, down_more, down_done, open_next}
use Rattle.embedding.proofs.places.join_places.Goals as goal

pub put_near-requires : goal.put_near-requires
put_near-requires g c =
    let r = c.requires in
    (omega (arith, r.0.fits), open_next r.0 (omega (arith, c.put_root.auto.us, c.loop-k.auto.us)) (omega (arith, c.put_root.auto.vs, c.loop-k.auto.vs)) c.loop-k-test.true (omega (arith, c.loop-k.auto.k)) c.from-p.ensures c.loop-k.invariant.spots)

pub loop-k-preserved : goal.loop-k-preserved
loop-k-preserved g c =
    let r = c.requires in
    let o = (open_next r.0 (omega (arith, c.put_root.auto.us, c.loop-k.auto.us)) (omega (arith, c.put_root.auto.vs, c.loop-k.auto.vs)) c.loop-k-test.true (omega (arith, c.loop-k.auto.k)) c.from-p.ensures c.loop-k.invariant.spots).0 in
    down_more c.from-p.result c.from-p.ensures (omega arith) (omega (arith, c.loop-k.auto.k)) r.0.rising o.fair o.has c.loop-k.invariant c.put_near.ensures

pub returns : goal.returns
returns g c =
    let r = c.requires in
    down_done (omega (arith, c.loop-k-test.false)) (down_begin r.0 r.1 r.2 c.put_root.ensures) c.loop-k.invariant
