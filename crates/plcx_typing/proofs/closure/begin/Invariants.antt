use Rattle.std.proofs.Common.{◌≡◌, ℕ, ◌<◌, true}
use Rattle.plcx_typing.specs.Closure.{is_marked, found_at, IsSearch}
use Rattle.plcx_typing.proofs.closure.begin.Given as goal

abbrev pub invariant-loop-seed : goal.invariant-loop-seed
invariant-loop-seed l = record {
  search : IsSearch l.flow.seeds.items l.flow.next.items l.count l.search.marks.items l.search.found.items 0;
  met : (k : ℕ) → k < l.seed-index → is_marked l.search.marks.items (found_at l.flow.seeds.items k).element (found_at l.flow.seeds.items k).ty ≡ true;
}
