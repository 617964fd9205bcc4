use Rattle.std.proofs.Common.{◌≡◌, ◌<◌, true, inl, inr, length, sym, ◌∙◌, ap, subst, arith}
use Rattle.std.specs.List.{Contains}
use Rattle.std.proofs.lemmas.Bool.{cases_lt}
use Rattle.std.proofs.lemmas.List.{get_or_default}
use Rattle.std.proofs.lemmas.List.Elements.{Contains-get_or}
use Rattle.plcx_typing.specs.declared.flow.Fact.{Fact}
use Rattle.plcx_typing.specs.Closure.{is_marked, no_fact, found_at, Seed, IsSearch}
use Rattle.plcx_typing.proofs.Searching.{start, noted, marked_now, marks_kept}
use Rattle.plcx_typing.proofs.closure.begin.Goals as goal

pub note-requires : goal.note-requires
note-requires c =
    let seeds = c.args.flow.now.seeds.items in
    let items = c.deref-seed-items.result.now in
    let there : Contains seeds (found_at items c.loop-seed.seed-index) = subst (λ xs. Contains xs (found_at items c.loop-seed.seed-index)) c.deref-seed-items.ensures.value (Contains-get_or items c.loop-seed.seed-index no_fact c.loop-seed-test.true) in
    omega (arith, c.requires.flow.seeded (found_at items c.loop-seed.seed-index) there, c.loop-seed.invariant.search.count)

pub loop-seed-preserved : goal.loop-seed-preserved
loop-seed-preserved c =
    let seeds = c.args.flow.now.seeds.items in
    let next = c.args.flow.now.next.items in
    let items = c.deref-seed-items.result.now in
    let i = c.loop-seed.seed-index in
    let f = found_at items i in
    let there : Contains seeds f = subst (λ xs. Contains xs f) c.deref-seed-items.ensures.value (Contains-get_or items i no_fact c.loop-seed-test.true) in
    let within = c.requires.flow.seeded f there in
    let was = c.loop-seed.invariant in
    let marks = c.loop-seed.search.marks.items in
    let marks' = c.note.new.self.marks.items in
    let both = noted seeds next c.args.count marks marks' c.loop-seed.search.found.items c.note.new.self.found.items 0 f c.in_ok-note.ensures.marks c.in_ok-note.ensures.found was.search within (Seed there) in
    record {
      search = both.0;
      met = λ k h. elim (cases_lt k i) [
        | inl low ↦ ap (λ x. is_marked x (found_at seeds k).element (found_at seeds k).ty) c.in_ok-note.ensures.marks ∙ marks_kept marks c.args.count f was.search.count within (found_at seeds k).element (found_at seeds k).ty (was.met k low)
        | inr high ↦
            let same : i ≡ k = omega arith in
            let at : f ≡ found_at seeds k = ap (λ xs. found_at xs i) c.deref-seed-items.ensures.value ∙ ap (found_at seeds) same in
            subst (λ (x : Fact). is_marked marks' x.element x.ty ≡ true) at (ap (λ x. is_marked x f.element f.ty) c.in_ok-note.ensures.marks ∙ marked_now marks c.args.count f was.search.count within)
      ];
    }

pub returns-clause-seeds : goal.returns-clause-seeds
returns-clause-seeds c = λ f there.
    let seeds = c.args.flow.now.seeds.items in
    let value : found_at seeds there.0 ≡ f = get_or_default seeds there.0 no_fact f there.1 ∙ there.2 in
    let low : there.0 < c.loop-seed.seed-index = omega (arith, there.1, c.loop-seed-test.false, ap length c.deref-seed-items.ensures.value) in
    subst (λ (x : Fact). is_marked c.loop-seed.search.marks.items x.element x.ty ≡ true) value (c.loop-seed.invariant.met there.0 low)

pub loop-seed-init : goal.loop-seed-init
loop-seed-init c = record {
  search = subst (λ found. IsSearch c.args.flow.now.seeds.items c.args.flow.now.next.items c.args.count c.in_ok-no_marks.field-0.items found 0) (sym c.new.ensures.items) (start c.args.flow.now.seeds.items c.args.flow.now.next.items c.args.count c.in_ok-no_marks.field-0.items c.in_ok-no_marks.ensures);
  met = λ k h. absurd (omega arith);
}
