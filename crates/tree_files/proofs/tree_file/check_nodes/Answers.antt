use mathlib.Core.Path.{sym, ◌∙◌}
use Rattle.lists.proofs.First.{seek_go, seek_stop, seek_end}
use Rattle.fields.specs.Fields.{firsts, seconds, numbers_in}
use Rattle.tree_files.proofs.TreeAnswers.{other_places, other_wires, node_unlike, nodes-alike}
use Rattle.tree_files.proofs.tree_file.check_nodes.Goals as goal

pub returns-then-count_places-nodes : goal.returns-then-count_places-nodes
returns-then-count_places-nodes c =
    let a = c.args in
    other_places a.nodes.us.now a.nodes.vs.now a.nodes.ws.now (firsts a.v4.now) (seconds a.v4.now) (numbers_in 4 a.v5.now) (λ e. c.if-count_places-nodes.true (c.count_places.ensures ∙ e))

pub returns-then-count-nodes : goal.returns-then-count-nodes
returns-then-count-nodes c =
    let a = c.args in
    other_wires a.nodes.us.now a.nodes.vs.now a.nodes.ws.now (firsts a.v4.now) (seconds a.v4.now) (numbers_in 4 a.v5.now) (sym c.count_places.ensures ∙ c.if-count_places-nodes.false) (λ e. c.if-count-nodes.true (c.count.ensures ∙ e))

pub returns-then-is_unlike : goal.returns-then-is_unlike
returns-then-is_unlike c =
    let a = c.args in
    node_unlike a.nodes.us.now a.nodes.vs.now a.nodes.ws.now (firsts a.v4.now) (seconds a.v4.now) (numbers_in 4 a.v5.now) (sym c.count_places.ensures ∙ c.if-count_places-nodes.false) (sym c.count.ensures ∙ c.if-count-nodes.false)
    (seek_stop c.loop-k.invariant c.loop-k-test.true (sym c.is_unlike.ensures ∙ c.if-is_unlike.true)) c.loop-k-test.true

pub loop-k-preserved : goal.loop-k-preserved
loop-k-preserved c =
    seek_go c.loop-k.invariant c.loop-k-test.true (sym c.is_unlike.ensures ∙ c.if-is_unlike.false)

pub returns : goal.returns
returns c =
    let a = c.args in
    nodes-alike a.nodes.us.now a.nodes.vs.now a.nodes.ws.now (firsts a.v4.now) (seconds a.v4.now) (numbers_in 4 a.v5.now) (sym c.count_places.ensures ∙ c.if-count_places-nodes.false) (sym c.count.ensures ∙ c.if-count-nodes.false)
    (seek_end c.loop-k.invariant c.loop-k-test.false) c.loop-k-test.false
