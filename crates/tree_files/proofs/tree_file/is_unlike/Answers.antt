use mathlib.Core.Path.{◌≡◌, sym, ap, ◌∙◌}
use native.Mathlib.Omega.{arith}
use lib.IntN.{pos}
use lib.ListN.{get_or}
use Rattle.std.proofs.Common.{rules, of_z, w32}
use Rattle.fields.proofs.Values.{length_firsts, length_numbers_in, first_in, second_in, number_of}
use Rattle.tree_files.proofs.TreeAnswers.{equal_self, equal_not}
use Rattle.tree_files.proofs.tree_file.is_unlike.Goals as goal

pub read-requires : goal.read-requires
read-requires c = let n = length_firsts c.args.v4.now in omega arith

pub returns-then-read-nodes : goal.returns-then-read-nodes
returns-then-read-nodes c =
    let a = c.args in
    let n = length_firsts a.v4.now in
    rw (first_in a.v4.now a.k (omega arith) ∙ sym c.read.ensures, equal_not c.read.result (get_or a.nodes.us.now a.k (pos 0)) (λ q. c.if-read-nodes.true (ap (of_z w32) q)))

pub read-requires-2 : goal.read-requires-2
read-requires-2 c = let n = length_firsts c.args.v4.now in omega arith

pub returns-then-read-nodes-2 : goal.returns-then-read-nodes-2
returns-then-read-nodes-2 c =
    let a = c.args in
    let n = length_firsts a.v4.now in
    let e : c.read.result ≡ get_or a.nodes.us.now a.k (pos 0) = search rules in
    rw (
      first_in a.v4.now a.k (omega arith) ∙ sym c.read.ensures ∙ e,
      equal_self (get_or a.nodes.us.now a.k (pos 0)),
      second_in a.v4.now a.k (omega arith) ∙ sym c.read-2.ensures,
      equal_not c.read-2.result (get_or a.nodes.vs.now a.k (pos 0)) (λ q. c.if-read-nodes-2.true (ap (of_z w32) q)),
    )

pub read-requires-3 : goal.read-requires-3
read-requires-3 c = let n = length_numbers_in 4 c.args.v5.now in omega arith

pub returns : goal.returns
returns c =
    let a = c.args in
    let n = length_firsts a.v4.now in
    let m = length_numbers_in 4 a.v5.now in
    let e : c.read.result ≡ get_or a.nodes.us.now a.k (pos 0) = search rules in
    let f : c.read-2.result ≡ get_or a.nodes.vs.now a.k (pos 0) = search rules in
    rw (
      first_in a.v4.now a.k (omega arith) ∙ sym c.read.ensures ∙ e,
      equal_self (get_or a.nodes.us.now a.k (pos 0)),
      second_in a.v4.now a.k (omega arith) ∙ sym c.read-2.ensures ∙ f,
      equal_self (get_or a.nodes.vs.now a.k (pos 0)),
      number_of 4 a.v5.now a.k (omega arith),
      c.read-3.ensures,
    )
