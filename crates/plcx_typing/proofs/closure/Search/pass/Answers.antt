use Rattle.std.proofs.Common.{◌≡◌, [], true, inl, inr, get_or, sym, ◌∙◌, ap, subst, arith}
use Rattle.std.specs.List.{Contains}
use Rattle.std.proofs.lemmas.Bool.{cases_lt}
use Rattle.std.proofs.lemmas.List.{get_or_read, get_or_default}
use Rattle.plcx_typing.specs.declared.flow.Fact.{Fact}
use Rattle.plcx_typing.specs.Closure.{is_marked, no_fact, found_at, next_of, IsPassed, fact}
use Rattle.plcx_typing.proofs.Searching.{noted, follows, passed_more, marked_now, marks_kept}
use Rattle.plcx_typing.proofs.closure.Search.pass.Goals as goal

pub note-requires : goal.note-requires
note-requires c =
    let found = c.args.self.now.found.items in
    let next = c.args.flow.now.next.items in
    let f = c.index-fact.result.now in
    let at : f ≡ found_at found c.args.done = get_or_read found c.args.done f c.requires.more c.index-fact.ensures no_fact in
    let is : c.index.result.now ≡ next_of next f.element = get_or_read next f.element c.index.result.now (omega (arith, ap (λ (x : Fact). x.element) at, (c.requires.search.each c.args.done c.requires.more).element, c.requires.flow.count)) c.index.ensures [] in
    let here = follows c.args.flow.now.seeds.items next c.args.count c.args.self.now.marks.items found c.args.done f c.as_slice-element-items.result.now c.requires.flow c.requires.search c.requires.more at (c.as_slice-element-items.ensures ∙ is) c.loop-element.element-index c.loop-element-test.true in
    omega (arith, here.0, c.loop-element.invariant.search.count)

pub loop-element-preserved : goal.loop-element-preserved
loop-element-preserved c =
    let seeds = c.args.flow.now.seeds.items in
    let found = c.args.self.now.found.items in
    let next = c.args.flow.now.next.items in
    let f = c.index-fact.result.now in
    let items = c.as_slice-element-items.result.now in
    let i = c.loop-element.element-index in
    let at : f ≡ found_at found c.args.done = get_or_read found c.args.done f c.requires.more c.index-fact.ensures no_fact in
    let is : c.index.result.now ≡ next_of next f.element = get_or_read next f.element c.index.result.now (omega (arith, ap (λ (x : Fact). x.element) at, (c.requires.search.each c.args.done c.requires.more).element, c.requires.flow.count)) c.index.ensures [] in
    let here = follows seeds next c.args.count c.args.self.now.marks.items found c.args.done f items c.requires.flow c.requires.search c.requires.more at (c.as_slice-element-items.ensures ∙ is) i c.loop-element-test.true in
    let was = c.loop-element.invariant in
    let new = fact (get_or items i 0) f.ty in
    let both = noted seeds next c.args.count c.loop-element.self.marks.items c.note.new.self.marks.items c.loop-element.self.found.items c.note.new.self.found.items c.args.done new c.in_ok-note.ensures.marks c.in_ok-note.ensures.found was.search here.0 here.1 in
    let kept = marks_kept c.loop-element.self.marks.items c.args.count new was.search.count here.0 in
    let now : is_marked c.note.new.self.marks.items (get_or items i 0) f.ty ≡ true = ap (λ m. is_marked m (get_or items i 0) f.ty) c.in_ok-note.ensures.marks ∙ marked_now c.loop-element.self.marks.items c.args.count new was.search.count here.0 in
    record {
      search = both.0;
      kept = λ e t m. ap (λ x. is_marked x e t) c.in_ok-note.ensures.marks ∙ kept e t (was.kept e t m);
      extends = record { longer = omega (arith, was.extends.longer, both.1.longer); same = λ k h. both.1.same k (omega (arith, was.extends.longer)) ∙ was.extends.same k h };
      met = λ k h. elim (cases_lt k i) [
        | inl low ↦ ap (λ x. is_marked x (get_or items k 0) f.ty) c.in_ok-note.ensures.marks ∙ kept (get_or items k 0) f.ty (was.met k low)
        | inr high ↦ let same : k ≡ i = omega arith in ap (λ j. is_marked c.note.new.self.marks.items (get_or items j 0) f.ty) same ∙ now
      ];
    }

pub returns-clause-search : goal.returns-clause-search
returns-clause-search c =
    let seeds = c.args.flow.now.seeds.items in
    let found = c.args.self.now.found.items in
    let next = c.args.flow.now.next.items in
    let f = c.index-fact.result.now in
    let items = c.as_slice-element-items.result.now in
    let marks = c.loop-element.self.marks.items in
    let at : f ≡ found_at found c.args.done = get_or_read found c.args.done f c.requires.more c.index-fact.ensures no_fact in
    let is : c.index.result.now ≡ next_of next f.element = get_or_read next f.element c.index.result.now (omega (arith, ap (λ (x : Fact). x.element) at, (c.requires.search.each c.args.done c.requires.more).element, c.requires.flow.count)) c.index.ensures [] in
    let was = c.loop-element.invariant in
    let stays : found_at c.loop-element.self.found.items c.args.done ≡ f = was.extends.same c.args.done c.requires.more ∙ sym at in
    let passed : IsPassed next marks f = λ v there.
    let here : Contains items v = subst (λ xs. Contains xs v) (sym (c.as_slice-element-items.ensures ∙ is)) there in
    let value : get_or items here.0 0 ≡ v = get_or_default items here.0 0 v here.1 ∙ here.2 in
    subst (λ x. is_marked marks x f.ty ≡ true) value (was.met here.0 (omega (arith, here.1, c.loop-element-test.false)))
    in
    passed_more seeds next c.args.count marks c.loop-element.self.found.items c.args.done was.search (omega (arith, c.requires.more, was.extends.longer)) (subst (IsPassed next marks) (sym stays) passed)
