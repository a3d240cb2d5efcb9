use Prim.Native.Nat.{ℕ}
use native.Mathlib.Omega.{arith}
use Rattle.plane.proofs.Checks.{fitting}
use mathlib.Core.Path.{ap, ◌∙◌}
use mathlib.Core.List.{List}
use lib.ListN.{length}
use lib.Pow.{pow_mono}
use Rattle.lists.specs.Grow.{front}
use Rattle.plane.specs.Sinks.{sinks_at}
use Rattle.subsets.specs.Square.{held}
use Rattle.subsets.specs.Subsets.{diam}
use Rattle.subsets.proofs.Agree.{table_agree}
use Rattle.search.proofs.Finding.{diameters_are, filled_part}
use Rattle.subsets.proofs.Small.{diam_small}
use Rattle.search.proofs.search.search_joins.Goals as goal

pub square-requires : goal.square-requires
square-requires c = (fitting c.requires.ranged, c.requires.few)

pub diameters-requires : goal.diameters-requires
diameters-requires c = (c.requires.few, pow_mono c.requires.few)

pub fill-steps-requires : goal.fill-steps-requires
fill-steps-requires c =
    let a = c.args in
    let p = c.requires in
    let w = diameters_are a.sinks.now.xs.now a.sinks.now.ys.now a.sinks.now.delays.now a.budget p.few c.square.result c.diameters.new.ds c.square.ensures c.diameters.ensures in (
      p.few,
      p.room_table,
      λ m l. omega (arith, w m l, diam_small a.sinks.now.xs.now a.sinks.now.ys.now a.sinks.now.delays.now p.ranged m),
    )

pub write_joins-requires : goal.write_joins-requires
write_joins-requires c =
    let a = c.args in
    let p = c.requires in
    let ds : List ℕ = c.diameters.new.ds in
    let f = c.fill-steps in
    record {
      prepared =
          record { ranged = p.ranged; some = p.some; few = p.few; room_table = rw f.auto.table p.room_table; room_js = p.room_js };
      diameters = diameters_are a.sinks.now.xs.now a.sinks.now.ys.now a.sinks.now.delays.now a.budget p.few c.square.result ds c.square.ensures c.diameters.ensures;
      after = filled_part a.sinks.now.xs.now a.sinks.now.ys.now a.sinks.now.delays.now a.budget (held ds) a.table.now f.new.table f.ensures.table_after;
    }

pub returns : goal.returns
returns c =
    let a = c.args in
    let p = c.requires in
    let ds : List ℕ = c.diameters.new.ds in
    let f = c.fill-steps in
    let w = diameters_are a.sinks.now.xs.now a.sinks.now.ys.now a.sinks.now.delays.now a.budget p.few c.square.result ds c.square.ensures c.diameters.ensures in
    record {
      counts = f.ensures.value;
      writes_table = f.ensures.table_after ∙ ap (λ (l : List ℕ). front l a.table.now) (table_agree (held ds) (diam (sinks_at a.sinks.now.xs.now a.sinks.now.ys.now a.sinks.now.delays.now)) (length a.sinks.now.xs.now) a.budget w);
      writes_js = c.write_joins.ensures;
    }
