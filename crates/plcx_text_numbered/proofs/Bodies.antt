-- POUs within POUs, and a scan of a program: over numbers as over paths.
use Rattle.std.proofs.Common.{◌≡◌, ℕ, zero, suc, ◌+◌, ◌<◌, ◌≤◌, pos, List, [], ◌∷◌, ◌++◌, length, Option, Some, None, refl, sym, ap, ◌∙◌, subst, arith, append_assoc, add_assoc, zero-add}
use Rattle.std.specs.Prelude.{slice_get}
use Rattle.std.proofs.lemmas.Option.{slice_get_within}
use Rattle.plcx_types.specs.Name.{in_lower_case}
use Rattle.plcx_types.specs.Value.{Value}
use Rattle.plcx_std.specs.declared.kind.StdKind.{StdKind}
use Rattle.plcx_std.specs.Kind.{kind_named}
use Rattle.plcx_meaning.specs.Base.{Path, Outcome, Ended, then_do, found, Site, top}
use Rattle.plcx_meaning.specs.Tree.{PouText}
use Rattle.plcx_meaning.specs.Layout.{Scope, variables_of}
use Rattle.plcx_meaning.specs.Standard.{called as called_at}
use Rattle.plcx_meaning.specs.Execute.{TextState, TextCalls, bind, fresh, list_runs, pou_runs, world_of, with_standard, blocks_run, program_runs}
use Rattle.plcx_steps.specs.declared.program.Program.{Program}
use Rattle.plcx_steps.specs.declared.program.Instance.{Instance as Standing}
use Rattle.plcx_steps.specs.Numbered.{here_at}
use Rattle.plcx_steps.specs.Sound.{origin}
use Rattle.plcx_numbered.specs.Agreeing.{AreApart}
use Rattle.plcx_text_steps.specs.declared.text.Entry.{Entry}
use Rattle.plcx_text_steps.specs.declared.text.Text.{Text}
use Rattle.plcx_text_steps.specs.Numbered.{Numbers, inner, callee, entered, section_does, text_does}
use Rattle.plcx_text_numbered.specs.Agreeing.{Lies, SameInOuts, Agree, Alike, Nothing}
use Rattle.plcx_text_numbered.specs.Setting.{setting}
use Rattle.plcx_text_numbered.specs.Statements.{PouPlan, Around, IsSection, IsPou, IsPrepared}
use Rattle.plcx_text_numbered.proofs.Alikes.{both_end, alike_then, alike_as, alike_from}
use Rattle.plcx_text_numbered.proofs.Assigning.{section_lines}
use Rattle.plcx_text_numbered.proofs.Calling.{inner_site, StepsStandard, CallsAlike, bound_same}
use Rattle.plcx_text_numbered.proofs.Statements.{lines_alike}

-- an instance within one that lies within the whole lies there too
pub lies_within : (whole own part : List Path) (p : Path) (first leaves : ℕ) (i : List ℕ) → Lies whole own p first → Lies own part (i ∷ []) leaves → Lies whole part (i ∷ p) (first + leaves)
lies_within whole own part p first leaves i outer l = record {
  paths = λ j x there.
      ap (slice_get whole) (add_assoc first leaves j)
      ∙ outer.paths (leaves + j) (x ++ (i ∷ [])) (l.paths j x there)
      ∙ ap Some (append_assoc x (i ∷ []) p);
}

append_none : (x : Path) → x ++ [] ≡ x
append_none [] = refl
append_none (n ∷ x) = ap (λ y. n ∷ y) (append_none x)

-- the program itself
pub lies_whole : (whole : List Path) → Lies whole whole [] 0
lies_whole whole = record { paths = λ j x there. ap (slice_get whole) (zero-add j) ∙ there ∙ ap Some (sym (append_none x)) }

module _ (whole : List Path) (apart : AreApart whole) (unit : List PouText) (plans : List PouPlan) (program : Program) (text : Text) (prepared : IsPrepared unit plans program text) (time : ℕ) where
  -- where the statements of a POU are prepared
  abbrev around : (own : PouPlan) (k : ℕ) → IsPou unit plans program text k own → Around
  around own k h = record { unit = unit; plans = plans; own = own; program = program; text = text; num = h.num; width = length h.entry.wires.items }

  standard_steps : (users : TextCalls) → StepsStandard time (with_standard time users)
  standard_steps users type kind site g h =
      let F : Option StdKind → Outcome TextState (Unit {0}) = λ o. elim o [ Some k ↦ Ended (record g { store = called_at k time site.path g.store }) tt | None ↦ users type site g ] in
      ap F h

  user_runs : (users : TextCalls) (type : List ℕ) (site : Site) (g : TextState) → kind_named type ≡ None → with_standard time users type site g ≡ users type site g
  user_runs users type site g h =
      let F : Option StdKind → Outcome TextState (Unit {0}) = λ o. elim o [ Some k ↦ Ended (record g { store = called_at k time site.path g.store }) tt | None ↦ users type site g ] in
      ap F h

  -- a POU as an instance, by how the blocks of its instances are run
  abbrev PouAlike : (levels : ℕ) (own : PouPlan) (k : ℕ) → Type 0
  PouAlike levels own k =
      (e : Entry) → slice_get text.entries.items k ≡ Some e → (site : Site) (at : Standing) (in_outs : List ℕ) → Lies whole own.plan.paths site.path at.leaves → SameInOuts whole own.plan.in_outs site.bound in_outs → (d : ℕ) → e.section < d
      → (g : TextState) (n : Numbers) → Agree whole g n
      → Alike whole (Nothing {K = Unit {0}}) (pou_runs own.pou (world_of unit) (with_standard time (blocks_run levels time unit)) site g) (entered (section_does d text) text (here_at program (pos time) k at in_outs) n)

  one_alike : (levels : ℕ) (own : PouPlan) (k : ℕ) (h : IsPou unit plans program text k own) → own.level ≤ levels
      → ((plan : PouPlan) (number : ℕ) → slice_get plans number ≡ Some plan → plan.level < own.level → (below : ℕ) → suc below ≡ levels → PouAlike below plan number)
      → PouAlike levels own k
  one_alike levels own k h low lower e begins site at in_outs lies same_in_outs d deep g n a =
      let c = around own k h in
      let call = with_standard time (blocks_run levels time unit) in
      let same : h.entry ≡ e = let s : Some h.entry ≡ Some e = sym h.begins ∙ begins in cc in
      let there : IsSection text (suc h.entry.section) h.entry.section h.section.lines.items = record { section = h.section; is = h.is; low = omega arith; are_lines = refl } in
      let deep' : suc h.entry.section ≤ d = let z : h.entry.section ≡ e.section = ap (λ (x : Entry). x.section) same in omega arith in
      let s = section_lines whole apart c h.apart site k time at in_outs lies same_in_outs d (suc h.entry.section) h.entry.section h.section.lines.items deep' there in
      let F : Scope → Outcome TextState (Unit {0}) = λ w. then_do (list_runs own.pou.body (record { world = w.world; variables = w.own; site = site }) call g (fresh (variables_of own.pou.blocks))) (λ x f. Ended x tt) in
      let G : Option Entry → Outcome Numbers (Unit {0}) = λ o. found o (λ (x : Entry). then_do (section_does d text (here_at program (pos time) k at in_outs) x.section n x.wires.items) (λ m ws. Ended m tt)) in
      let H : Outcome Numbers (List Value) → Outcome Numbers (Unit {0}) = λ o. then_do o (λ m ws. Ended m tt) in
      alike_from _ _ (ap F (sym h.scope))
      (alike_as _ _ (ap G h.begins ∙ ap H (s.2 n h.entry.wires.items))
      (alike_then _ _ _ _
      (lines_alike whole apart c h.apart site k time at in_outs lies same_in_outs call (standard_steps (blocks_run levels time unit)) calls own.pou.body h.entry.section s.0 h.section.lines.items s.1 h.lines
      g (fresh (variables_of own.pou.blocks)) n h.entry.wires.items a (record { frame = h.frame; width_is = refl }))
      (λ g' f m ws b i. both_end b tt)))
    where
      calls : CallsAlike whole apart (around own k h) h.apart site k time at in_outs lies same_in_outs (with_standard time (blocks_run levels time unit))
      calls below d' le i args type lines u g' m b = by_levels levels refl
        where
          inside : Site
          inside = inner_site site i (bind args (setting h.num.scope site) i)

          by_levels : (l : ℕ) → l ≡ levels → Alike whole (Nothing {K = Unit {0}}) (with_standard time (blocks_run levels time unit) type inside g')
              (entered (section_does d' text) text (callee (here_at program (pos time) k at in_outs) u.number u.leaves u.first (length u.operands)) m)
          by_levels zero is = let z : u.plan.level < own.level = u.level in absurd (omega arith)
          by_levels (suc l) is =
              let deeper = u.low in
              alike_from _ _ (user_runs (blocks_run levels time unit) type inside g' u.user
              ∙ ap (λ x. blocks_run x time unit type inside g') (sym is)
              ∙ ap (λ o. found o (λ (p : PouText). pou_runs p (world_of unit) (with_standard time (blocks_run l time unit)) inside g')) u.block)
              (lower u.plan u.number u.is_plan u.level l is u.entry u.begins inside (inner at u.leaves) _
              (lies_within whole own.plan.paths u.plan.plan.paths site.path at.leaves u.leaves (in_lower_case i) lies u.lies)
              (bound_same whole apart (around own k h) h.apart site k time at in_outs lies same_in_outs below i args type lines u) d' (omega arith) g' m b)

  pub pou_alike : (levels : ℕ) (own : PouPlan) (k : ℕ) → slice_get plans k ≡ Some own → own.level ≤ levels → PouAlike levels own k
  pou_alike zero own k there low = one_alike zero own k (prepared.each k own there) low (λ plan number is less below e. absurd (omega arith))
  pou_alike (suc levels) own k there low =
      one_alike (suc levels) own k (prepared.each k own there) low (λ plan number is less below e.
      let same : below ≡ levels = omega arith in
      subst (λ l. PouAlike l plan number) (sym same) (pou_alike levels plan number is (omega arith)))

  -- a scan of a program
  pub program_alike : (own : PouPlan) (k : ℕ) → slice_get plans k ≡ Some own → own.level < 17 → own.plan.in_outs ≡ [] → Lies whole own.plan.paths [] 0 → (g : TextState) (n : Numbers) → Agree whole g n
      → Alike whole (Nothing {K = Unit {0}}) (program_runs time unit own.pou g) (text_does program text (pos time) k n)
  program_alike own k there low none lies g n a =
      let h = prepared.each k own there in
      pou_alike 16 own k there (omega arith) h.entry h.begins top origin [] lies (record { each = λ j x is. let e : slice_get [] j ≡ Some x = subst (λ xs. slice_get xs j ≡ Some x) none is in absurd (cc) }) (length text.sections.items)
      (slice_get_within text.sections.items h.entry.section h.section h.is) g n a
