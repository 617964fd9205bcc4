-- What a piece of a text may presume, after another piece and within a call.
use Rattle.std.proofs.Common.{◌≡◌, ℕ, zero, suc, ℤ, ◌+◌, ◌-◌, ◌<◌, ◌≤◌, Bool, true, false, Result, Ok, Err, List, [], ◌∷◌, length, get_or, Some, add-zero, refl, sym, ap, ◌∙◌, subst, arith}
use Rattle.std.specs.Prelude.{slice_get, slice_range, if◌then◌else◌}
use Rattle.std.proofs.lemmas.Option.{same_Some, get_or_from_slice_get}
use Rattle.plcx_types.specs.Value.{Value}
use Rattle.plcx_meaning.specs.Base.{Ended, then_do, found}
use Rattle.plcx_meaning.specs.Execute.{selects}
use Rattle.plcx_steps.specs.declared.program.Action.{Action}
use Rattle.plcx_steps.specs.declared.program.Body.{Body}
use Rattle.plcx_steps.specs.declared.program.Program.{Program}
use Rattle.plcx_steps.specs.declared.program.Instance.{Instance}
use Rattle.plcx_steps.specs.declared.state.State.{State}
use Rattle.plcx_steps.specs.declared.state.Stop.{Stop}
use Rattle.plcx_steps.specs.declared.acting.Spot.{Spot}
use Rattle.plcx_steps.specs.Numbered.{Here, within}
use Rattle.plcx_steps.specs.Sound.{Enters, HasRoom}
use Rattle.plcx_steps.specs.Typed.{Shape, SameTypes, IsTypedAction, Kept}
use Rattle.plcx_steps.specs.declared.program.Step.TheVariants as step
use Rattle.plcx_steps.proofs.Rooms.{room_kept}
use Rattle.plcx_steps.proofs.Typing.{same_then, types_same, step_same}
use Rattle.plcx_text_steps.specs.declared.text.Line.{Line}
use Rattle.plcx_text_steps.specs.declared.text.Line.TheVariants.{Act, Call, If, While, Case}
use Rattle.plcx_text_steps.specs.declared.text.Arm.{Arm}
use Rattle.plcx_text_steps.specs.declared.text.Section.{Section}
use Rattle.plcx_text_steps.specs.declared.text.Entry.{Entry}
use Rattle.plcx_text_steps.specs.declared.text.Text.{Text}
use Rattle.plcx_text_steps.specs.Numbered.{Numbers, Sections, inner, choice, lines_do, section_does}
use Rattle.plcx_text_steps.specs.Numbered.{entered as entered_as}
use Rattle.plcx_text_steps.specs.Sound.{HasSection, Begins, AreArms, IsSoundLine, AreSoundLines, IsSound, Stands}
use Rattle.plcx_text_steps.specs.Typed.{AreTypedLines}
use Rattle.plcx_text_steps.specs.Running.{outcome, IsAt, IsTypedAt, LinesTyped}

-- after a piece of a scan all is as it has to be
pub at_kept : (text : Text) (spot : Spot) (owner : Body) (old new : State) (own own' : List Value) (below below' in_outs in_outs' : ℕ)
    → IsAt text spot owner old own below in_outs → Kept old new → SameTypes own own' → below' ≡ below → in_outs' ≡ in_outs → IsAt text spot owner new own' below' in_outs'
at_kept text spot owner old new own own' below below' in_outs in_outs' at kept same b i =
    let f = at.frame in
    let g = at.in_out_frame in
    let n = kept.inputs in
    let room = at.inputs in
    record {
      sound = at.sound;
      body = at.body;
      room = room_kept owner spot.at spot.in_outs.now old new at.room kept;
      width = same.count ∙ at.width;
      frame = omega arith;
      in_out_frame = omega arith;
      inputs = subst (λ m. 64 ≤ m) (sym n) room;
    }

abbrev pub typed_kept : (text : Text) (spot : Spot) (old new : State) (own own' : List Value) → IsTypedAt text spot old.store.values old.store.memories own → Kept old new → SameTypes own own'
    → IsTypedAt text spot new.store.values new.store.memories own'
typed_kept text spot old new own own' h kept same = record {
  shapes = h.shapes;
  shape = h.shape;
  entry = h.entry;
  has_shape = h.has_shape;
  begins = h.begins;
  typed = h.typed;
  types = types_same h.shape spot.at spot.in_outs.now old new h.types kept;
  wires_typed = same_then _ _ _ h.wires_typed same;
}

-- the types of an action, where the wires have those of the first
pub action_typed : (shapes : List Shape) (program : Program) (shape : Shape) (ws vs : List Value) (a : Action) → SameTypes ws vs → IsTypedAction program shape ws a → IsTypedAction program shape vs a
action_typed shapes program shape ws vs a same h = step_same shapes program shape ws vs (step.Act a) same h

-- a section that is low enough for one is so for a higher one
has_section : (text : Text) (k below pou number : ℕ) → k ≤ below → HasSection text k pou number → HasSection text below pou number
has_section text k below pou number le h = let l = h.low in record { section = h.section; is = h.is; part = h.part; low = omega arith }

begins : (text : Text) (k below pou : ℕ) → k ≤ below → Begins text k pou → Begins text below pou
begins text k below pou le h = record { entry = h.entry; is = h.is; section = has_section text k below pou h.entry.section le h.section }

sound_line : (program : Program) (text : Text) (k below pou : ℕ) (body : Body) (l : Line) → k ≤ below → IsSoundLine program text k pou body l → IsSoundLine program text below pou body l
sound_line program text k below pou body (Act action) le h = h
sound_line program text k below pou body (Call callee leaves first count) le h = (h.0, begins text k below callee le h.1)
sound_line program text k below pou body (If test n) le h = (h.0, has_section text k below pou n le h.1)
sound_line program text k below pou body (While before test n) le h = (has_section text k below pou before le h.0, h.1, has_section text k below pou n le h.2)
sound_line program text k below pou body (Case source first count) le h = (h.0, record { there = h.1.there; each = λ i a there. has_section text k below pou a.section le (h.1.each i a there) })

pub sound_lines : (program : Program) (text : Text) (k below pou : ℕ) (body : Body) (ls : List Line) → k ≤ below → AreSoundLines program text k pou body ls → AreSoundLines program text below pou body ls
sound_lines program text k below pou body ls le h = λ i l there. sound_line program text k below pou body l le (h i l there)

-- a call stands within, at an instance without memories of its own
pub within_none : (at : Instance) (leaves : ℕ) → within at leaves 0 ≡ inner at leaves
within_none at leaves = ap (λ m. record { leaves = at.leaves + leaves; memories = m }) (add-zero at.memories)

-- a callee stands at its instance, with what its in-outs are bound to
pub entered : (program : Program) (text : Text) (owner callee : Body) (depth pou leaves first count : ℕ) (at : Instance) (bound : List ℕ) (in_outs : List ℕ) (values memory_count below deeper : ℕ)
    → (e : Enters program owner pou leaves 0 first count) → Begins text depth pou → callee ≡ e.callee → HasRoom owner at in_outs values memory_count → owner.first_wire ≤ below
    → length bound ≡ e.callee.in_outs → ((j : ℕ) → j < length bound → get_or bound j 0 < values) → deeper ≡ callee.first_in_out
    → Stands program text depth pou (inner at leaves) bound values memory_count below deeper
entered program text owner callee depth pou leaves first count at bound in_outs values memory_count below deeper e begins same room frame long each in_out_frame =
    let fits = e.leaves_fit in
    let keeps = e.memories_fit in
    let wires = e.wires in
    let a = room.leaves_fit in
    let b = room.memories_fit in
    let base : deeper ≡ e.callee.first_in_out = in_out_frame ∙ ap (λ (q : Body). q.first_in_out) same in
    record {
      body = e.callee;
      is = e.is;
      begins = begins;
      room = record { leaves_fit = omega arith; memories_fit = omega arith; few_values = room.few_values; few_memories = room.few_memories; in_outs_there = long; in_outs_fit = λ j h. each j (omega arith) };
      frame = omega arith;
      in_out_frame = omega arith;
    }

-- what stands at a place, where there is something
pub same_at : {A : Type 0} (xs : List A) (k : ℕ) (p q : A) → slice_get xs k ≡ Some p → q ≡ get_or xs k q → q ≡ p
same_at xs k p q there is = is ∙ get_or_from_slice_get xs k p q there

-- wires are gone behind a POU
gone : (r : Result (Unit {0}) Stop) (m : Numbers) (new : List Value) (u : Unit {0}) → outcome r u m ≡ then_do (outcome r new m) (λ k ws. Ended k u)
gone (Ok v) m new u = refl
gone (Err s) m new u = refl

-- a POU is entered as its section is evaluated with its wires
pub entered_is : (sections : Sections) (text : Text) (here : Here) (n m : Numbers) (e : Entry) (own new : List Value) (r : Result (Unit {0}) Stop)
    → slice_get text.entries.items here.pou ≡ Some e → own ≡ e.wires.items → outcome r new m ≡ sections here e.section n own → outcome r tt m ≡ entered_as sections text here n
entered_is sections text here n m e own new r there is does =
    gone r m new tt
    ∙ ap (λ o. then_do o (λ k ws. Ended k tt)) does
    ∙ ap (λ ws. then_do (sections here e.section n ws) (λ k vs. Ended k tt)) is
    ∙ sym (ap (λ o. found o (λ (f : Entry). then_do (sections here f.section n f.wires.items) (λ k ws. Ended k tt))) there)

-- a section is its lines
pub section_is : (depth : ℕ) (text : Text) (here : Here) (k : ℕ) (part : Section) (ls : List Line) (n : Numbers) (ws : List Value) → 0 < depth → slice_get text.sections.items k ≡ Some part → ls ≡ part.lines.items
    → lines_do (section_does (depth - 1) text) text here ls n ws ≡ section_does depth text here k n ws
section_is zero text here k part ls n ws some there is = absurd (omega arith)
section_is (suc depth) text here k part ls n ws some there is =
    let e : suc depth - 1 ≡ depth = omega arith in
    ap (λ d. lines_do (section_does d text) text here ls n ws) e
    ∙ ap (λ xs. lines_do (section_does depth text) text here xs n ws) is
    ∙ sym (ap (λ o. found o (λ (s : Section). lines_do (section_does depth text) text here s.lines.items n ws)) there)

-- the numbers and the types of the lines of a section
pub part_sound : (program : Program) (text : Text) (depth pou number : ℕ) (owner : Body) (part : Section) (ls : List Line) → IsSound program text → slice_get program.bodies.items pou ≡ Some owner
    → (h : HasSection text depth pou number) → part ≡ h.section → ls ≡ part.lines.items → AreSoundLines program text (depth - 1) pou owner ls
part_sound program text depth pou number owner part ls sound body h same is =
    let low = h.low in
    let P : List Line → Type 0 = λ xs. AreSoundLines program text number pou owner xs in
    let Q : ℕ → Type 0 = λ k. AreSoundLines program text number k owner h.section.lines.items in
    sound_lines program text number (depth - 1) pou owner ls (omega arith)
    (subst P (sym (is ∙ ap (λ (s : Section). s.lines.items) same))
    (subst Q h.part (sound.sections number h.section owner h.is (ap (slice_get program.bodies.items) h.part ∙ body))))

pub part_typed : (text : Text) (spot : Spot) (depth number : ℕ) (values memories own : List Value) (part : Section) (ls : List Line) → (t : IsTypedAt text spot values memories own)
    → (h : HasSection text depth spot.pou number) → part ≡ h.section → ls ≡ part.lines.items → LinesTyped text spot values memories own ls
part_typed text spot depth number values memories own part ls t h same is =
    let P : List Line → Type 0 = λ xs. AreTypedLines t.shapes spot.program.now t.shape t.entry.wires.items xs in
    record {
      spot_typed = t;
      lines = subst P (sym (is ∙ ap (λ (s : Section). s.lines.items) same))
          (t.typed.sections number h.section t.shape t.entry h.is (ap (slice_get t.shapes) h.part ∙ t.has_shape) (ap (slice_get text.entries.items) h.part ∙ t.begins));
    }

-- the section that is chosen is that of an arm
pub choice_arm : (arms : List Arm) (n : ℤ) (k : ℕ) → choice arms n ≡ Some k → (i : ℕ) × (a : Arm) × (slice_get arms i ≡ Some a) × (a.section ≡ k)
choice_arm [] n k e = absurd (cc)
choice_arm (a ∷ arms) n k e = by_test (selects n a.label) refl (λ h. choice_arm arms n k h)
  where
    by_test : (b : Bool) → selects n a.label ≡ b → (choice arms n ≡ Some k → (i : ℕ) × (x : Arm) × (slice_get arms i ≡ Some x) × (x.section ≡ k)) → (i : ℕ) × (x : Arm) × (slice_get (a ∷ arms) i ≡ Some x) × (x.section ≡ k)
    by_test true is rest = (0, a, refl, same_Some a.section k (sym (ap (λ b. if b then Some a.section else choice arms n) is) ∙ e))
    by_test false is rest = let r = rest (sym (ap (λ b. if b then Some a.section else choice arms n) is) ∙ e) in (suc r.0, r.1, r.2, r.3)

-- and is there
pub chosen_section : (text : Text) (below pou first count k : ℕ) (n : ℤ) (arms : List Arm) → AreArms text below pou first count → arms ≡ slice_range text.arms.items first (first + count)
    → choice arms n ≡ Some k → HasSection text below pou k
chosen_section text below pou first count k n arms are same e =
    let r = choice_arm (slice_range text.arms.items first (first + count)) n k (sym (ap (λ xs. choice xs n) same) ∙ e) in
    subst (HasSection text below pou) r.3 (are.each r.0 r.1 r.2)
