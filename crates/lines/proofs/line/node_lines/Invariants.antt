use Prim.Native.Nat.{◌≤◌, ◌+◌, ◌*◌}
use Rattle.lines.specs.Lines.{node_lines}
use Rattle.text.specs.Written.{Writes}
use Rattle.lines.proofs.line.node_lines.Given as goal

-- the lines of the first k nodes stand on the page
abbrev pub invariant-loop-k : goal.invariant-loop-k
invariant-loop-k l = Writes (node_lines l.t.n l.ps l.t.us.now l.t.vs.now l.t.ws.now l.k) l.initial.page l.page × (l.page.at ≤ l.initial.page.at + 45 * l.k)
