use mathlib.Core.Path.{sym, ap}
use Prim.Native.Nat.{◌*◌}
use native.Mathlib.Omega.{arith}
use lib.Seq.{sets}
use Rattle.subsets.specs.Square.{held}
use Rattle.subsets.proofs.Numbering.{join_facts, join_write, joins_none}
use Rattle.search.proofs.kept.+joins.Goals as goal

pub returns-then-s-lt2 : goal.returns-then-s-lt2
returns-then-s-lt2 t c =
    let a = c.args in
    record {
      value = omega (arith, c.if-s-lt2.true);
      out_after = ap (sets a.out.now (2 * a.made)) (sym (joins_none (held a.ds.now) a.table.now a.n a.s a.made c.requires.2 c.if-s-lt2.true));
    }

pub kept-a-requires : goal.kept-a-requires
kept-a-requires t c = let p = c.requires in (p.2, p.3, p.4)

pub overflow_sub-b : goal.overflow_sub-b
overflow_sub-b t c =
    let a = c.args in
    omega (arith, join_facts (held a.ds.now) a.table.now a.n a.s a.made c.requires.2 c.if-s-lt2.false c.kept-a.result c.kept-a.ensures)

pub joins-mid-requires : goal.joins-mid-requires
joins-mid-requires t c =
    let a = c.args in
    let f = join_facts (held a.ds.now) a.table.now a.n a.s a.made c.requires.2 c.if-s-lt2.false c.kept-a.result c.kept-a.ensures in
    let q = c.requires in
    (omega (arith, f.1, c.decreases), (q.0, q.1, f.0, omega (arith, f.1, q.3), omega (arith, f.1, q.4), omega (arith, f.4, q.5), omega (arith, f.4, q.6)))

pub joins-end-requires : goal.joins-end-requires
joins-end-requires t c =
    let a = c.args in
    let f = join_facts (held a.ds.now) a.table.now a.n a.s a.made c.requires.2 c.if-s-lt2.false c.kept-a.result c.kept-a.ensures in
    let q = c.requires in
    let j = c.joins-mid in (
      omega (arith, f.0, f.1, c.decreases),
      (
        q.0,
        q.1,
        omega (arith, f.1),
        omega (arith, f.0, q.3),
        omega (arith, f.0, q.4),
        omega (arith, f.2, f.3, f.4, q.5, j.ensures.value),
        omega (arith, f.2, f.3, f.4, q.6, j.ensures.value, j.auto.out),
      ),
    )

pub node-requires : goal.node-requires
node-requires t c =
    let a = c.args in
    let f = join_facts (held a.ds.now) a.table.now a.n a.s a.made c.requires.2 c.if-s-lt2.false c.kept-a.result c.kept-a.ensures in
    let q = c.requires in
    (f.0, q.0, q.1, omega (arith, f.2, f.3, f.4, q.5, c.joins-mid.ensures.value))

pub node-requires-2 : goal.node-requires-2
node-requires-2 t c =
    let a = c.args in
    let f = join_facts (held a.ds.now) a.table.now a.n a.s a.made c.requires.2 c.if-s-lt2.false c.kept-a.result c.kept-a.ensures in
    let q = c.requires in
    (omega (arith, f.1), q.0, q.1, omega (arith, f.2, f.3, f.4, q.5, c.joins-mid.ensures.value, c.joins-end.ensures.value))

pub put-requires : goal.put-requires
put-requires t c =
    let a = c.args in
    let f = join_facts (held a.ds.now) a.table.now a.n a.s a.made c.requires.2 c.if-s-lt2.false c.kept-a.result c.kept-a.ensures in
    let q = c.requires in
    let j = c.joins-mid in
    let k = c.joins-end in (
      omega (arith, f.2, f.3, f.4, q.5, j.ensures.value, k.ensures.value),
      omega (arith, f.2, f.3, f.4, q.6, j.ensures.value, k.ensures.value, j.auto.out, k.auto.out),
    )

pub overflow_add-result : goal.overflow_add-result
overflow_add-result t c =
    let a = c.args in
    let f = join_facts (held a.ds.now) a.table.now a.n a.s a.made c.requires.2 c.if-s-lt2.false c.kept-a.result c.kept-a.ensures in
    omega (arith, f.2, f.3, f.4, c.requires.5, c.joins-mid.ensures.value, c.joins-end.ensures.value)

pub returns : goal.returns
returns t c =
    let a = c.args in
    let f = join_facts (held a.ds.now) a.table.now a.n a.s a.made c.requires.2 c.if-s-lt2.false c.kept-a.result c.kept-a.ensures in
    let j = c.joins-mid in
    let k = c.joins-end in
    record {
      value = omega (arith, f.2, f.3, f.4, j.ensures.value, k.ensures.value);
      out_after =
          join_write (held a.ds.now) a.table.now a.n a.s a.made c.requires.2 c.if-s-lt2.false c.kept-a.result j.result k.result a.out.now j.new.out k.new.out c.put.new.out c.node.result c.node-2.result c.kept-a.ensures j.ensures.value k.ensures.value j.ensures.out_after k.ensures.out_after c.node.ensures c.node-2.ensures c.put.ensures;
    }
