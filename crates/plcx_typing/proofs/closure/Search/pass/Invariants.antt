use Rattle.std.proofs.Common.{◌≡◌, ℕ, ◌<◌, true, get_or}
use Rattle.plcx_typing.specs.Closure.{is_marked, IsSearch, KeepsMarks, Extends}
use Rattle.plcx_typing.proofs.closure.Search.pass.Given as goal

abbrev pub invariant-loop-element : goal.invariant-loop-element
invariant-loop-element l = record {
  search : IsSearch l.flow.seeds.items l.flow.next.items l.count l.self.marks.items l.self.found.items l.done;
  kept : KeepsMarks l.fn.self.marks.items l.self.marks.items;
  extends : Extends l.fn.self.found.items l.self.found.items;
  met : (k : ℕ) → k < l.element-index → is_marked l.self.marks.items (get_or l.element-items k 0) l.fact.ty ≡ true;
}
