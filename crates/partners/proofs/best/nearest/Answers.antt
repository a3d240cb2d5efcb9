use mathlib.Core.Path.{refl, sym, ap, ◌∙◌}
use Prim.Native.Nat.{◌-◌}
use native.Mathlib.Omega.{arith}
use lib.ListN.{length}
use Rattle.partners.specs.Rows.{Row, row_at, given}
use Rattle.partners.proofs.Members.{all_at}
use Rattle.partners.proofs.Picking.{row_in_order, right_chosen, chosen_up, right_mend}
use Rattle.partners.proofs.Placing.{missing, hit_at}
use Rattle.partners.proofs.Ending.{gone_less}
use Rattle.partners.proofs.best.nearest.Goals as goal

pub partner-q-requires : goal.partner-q-requires
partner-q-requires c =
    let o = c.requires in
    let w = c.lowest-row.ensures.one in
    (omega arith, o.few, row_in_order c.lowest-row.result o.upright o.low (c.rows.invariant o.top o.low o.right) (omega arith))

pub give-requires : goal.give-requires
give-requires c =
    let o = c.requires in
    let q = c.partner-q.ensures.0 in
    (omega (arith, c.lowest-row.ensures.one, o.few), omega (arith, q.names, all_at q.place o.low q.inside, o.few_nodes))

pub rows-preserved : goal.rows-preserved
rows-preserved c =
    let o = c.requires in
    let w = c.lowest-row.ensures.one in
    let q = c.partner-q.ensures in
    let n = c.partner-q.result in
    let g = c.give.ensures in
    let few = o.few in
    λ m b v. right_mend o.rising (c.rows.invariant m b v) b q.0 (λ t h z. g.others t (omega arith) z ∙ q.1 t (omega arith)) (g.here ∙ ap (λ (r : Row). given r n.at n.far) (q.1 c.lowest-row.result (omega arith)))

pub rows-smaller : goal.rows-smaller
rows-smaller c =
    let o = c.requires in
    let live = c.args.live.now in
    let w = c.lowest-row.ensures.one in
    let q = c.partner-q.ensures in
    let g = c.give.ensures in
    gone_less live c.rows.rows c.give.new.self (length live - 1) c.lowest-row.result q.0.place w
    (missing live (row_at c.rows.rows c.lowest-row.result).at (sym c.place.ensures ∙ c.in_default.is)) q.0.inside (sym q.0.names ∙ sym (ap (λ (r : Row). r.at) g.here))
    (λ t h n. ap (λ (r : Row). r.at) (g.others t (omega (arith, o.few)) n ∙ q.1 t (omega (arith, o.few))))

pub returns-in-Some : goal.returns-in-Some
returns-in-Some c =
    let o = c.requires in
    let live = c.args.live.now in
    let w = c.rows.invariant o.top o.low o.right in
    let t = c.in-Some.with in
    let (h, n) = hit_at live (row_at c.rows.rows c.lowest-row.result).at (sym c.place.ensures ∙ c.in-Some.is) in
    (right_chosen o.rising w (length live) refl c.lowest-row.ensures t h n, record { up = chosen_up o.rising w (length live) refl c.lowest-row.ensures t h n; inside = h; right = c.rows.invariant })
