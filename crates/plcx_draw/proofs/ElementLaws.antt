-- The elements of a body, one after another, each with its own pins.
use Rattle.std.proofs.Common.{◌≡◌, ℕ, zero, suc, ◌+◌, ◌<◌, ◌≤◌, List, [], ◌∷◌, ◌++◌, take, drop, get_or, length, refl, sym, ap, ◌∙◌, arith}
use Rattle.std.specs.List.{zip}
use Rattle.std.proofs.lemmas.List.{drop_more, drop-take, append_assoc, get_or-map, length-map}
use Rattle.plcx_meaning.specs.Diagram.{DiagramElement, Contact, Coil, Out, Pass, Jump, Return}
use Rattle.plcx_model.specs.declared.body.Kind.{Kind}
use Rattle.plcx_model.specs.declared.body.Kind.TheVariants as kind
use Rattle.plcx_model.specs.declared.body.BodyElement.{BodyElement}
use Rattle.plcx_model.specs.declared.project.Pou.{Pou}
use Rattle.plcx_model.specs.Numbering.{pins_of}
use Rattle.plcx_rules.specs.Callees.{callee_named}
use Rattle.plcx_view.specs.Pins.{Pin}
use Rattle.plcx_view.specs.Links.{link_at}
use Rattle.plcx_view.specs.Blocks.{Wired, block_by}
use Rattle.plcx_view.specs.Operands.{operand_of, target_of}
use Rattle.plcx_view.specs.Kinds.{storing_of, coiling_of, contacting_of, kind_of}
use Rattle.plcx_view.specs.Diagrams.{element_of, elements_from}
use Rattle.plcx_draw.specs.declared.known.Known.{Known}
use Rattle.plcx_draw.specs.Known.{Looked, shown_known, looked_up}
use Rattle.plcx_draw.specs.Sheets.{AreKnown}

-- ---- an element needs its own pins alone

by_first : (pous : List Pou) (p : Pou) (pins : List Pin) → link_at pous p (take 1 pins) ≡ link_at pous p pins
by_first pous p [] = refl
by_first pous p (pin ∷ pins) = refl

zip_front : {A B : Type 0} (xs : List A) (n : ℕ) (ys : List B) → length xs ≤ n → zip xs (take n ys) ≡ zip xs ys
zip_front [] n ys h = refl
zip_front (x ∷ xs) zero ys h = absurd (omega arith)
zip_front (x ∷ xs) (suc n) [] h = refl
zip_front (x ∷ xs) (suc n) (y ∷ ys) h = let fewer : length xs ≤ n = omega arith in ap (λ zs. (x, y) ∷ zs) (zip_front xs n ys fewer)

zip_behind : {A B : Type 0} (xs : List A) (n : ℕ) (ys : List B) → zip xs (drop n (take (n + length xs) ys)) ≡ zip xs (drop n ys)
zip_behind xs n ys = let all : length xs ≤ length xs = omega arith in ap (zip xs) (drop-take n (length xs) ys) ∙ zip_front xs (length xs) (drop n ys) all

-- what an element is by its own pins
pub own_pins : (pous : List Pou) (p : Pou) (pins : List Pin) (k : Kind) → kind_of pous p (take (pins_of k) pins) k ≡ kind_of pous p pins k
own_pins pous p pins kind.Skipped = refl
own_pins pous p pins kind.LeftRail = refl
own_pins pous p pins (kind.RightRail input) = refl
own_pins pous p pins (kind.Contact input text mods) = ap (λ l. Contact (contacting_of mods) (operand_of pous p text) l) (by_first pous p pins)
own_pins pous p pins (kind.Coil input text mods) = ap (λ l. Coil (coiling_of mods) (target_of pous p text) l) (by_first pous p pins)
own_pins pous p pins (kind.In text mods) = refl
own_pins pous p pins (kind.Out input text mods) = ap (λ l. Out (storing_of mods) (target_of pous p text) l) (by_first pous p pins)
own_pins pous p pins (kind.Block type_name instance inputs in_outs outputs) =
    let a = length inputs in
    let b = length in_outs in
    let within : a ≤ a + b = omega arith in
    let c = callee_named pous type_name in
    ap (λ (ins : List Wired). block_by pous p c instance inputs ins (zip in_outs (drop a (take (a + b) pins))) outputs) (zip_front inputs (a + b) pins within)
    ∙ ap (λ (bound : List Wired). block_by pous p c instance inputs (zip inputs pins) bound outputs) (zip_behind in_outs a pins)
own_pins pous p pins (kind.Connector name input) = ap Pass (by_first pous p pins)
own_pins pous p pins (kind.Continuation name) = ap Pass (by_first pous p pins)
own_pins pous p pins (kind.Label name) = refl
own_pins pous p pins (kind.Jump label input) = ap (λ l. Jump label l) (by_first pous p pins)
own_pins pous p pins (kind.Return input) = ap Return (by_first pous p pins)

-- ---- elements that are known

-- there are as many as elements
pub as_many : (pous : List Pou) (p : Pou) (known : List Known) → AreKnown pous p known → length known ≡ length p.body.elements
as_many pous p known are = sym (length-map known shown_known) ∙ ap length are ∙ length-map p.body.elements (looked_up pous p)

-- the one that stands at a place is known, and is the element there
pub stands_there : (pous : List Pou) (p : Pou) (known : List Known) (i : ℕ) (k : Known) → AreKnown pous p known → i < length known → k ≡ get_or known i k
    → (i < length p.body.elements) × (k.element.now ≡ get_or p.body.elements i k.element.now) × (shown_known k ≡ looked_up pous p k.element.now)
stands_there pous p known i k are within is =
    let es = p.body.elements in
    let e = get_or es i k.element.now in
    let long : i < length es = omega (arith, as_many pous p known are) in
    let found : shown_known k ≡ looked_up pous p e =
    ap shown_known is
    ∙ sym (get_or-map shown_known known i k (shown_known k) within)
    ∙ ap (λ (ls : List Looked). get_or ls i (shown_known k)) are
    ∙ get_or-map (looked_up pous p) es i k.element.now (shown_known k) long in
    let same : k.element.now ≡ e = ap (λ (l : Looked). l.element) found in
    (long, same, found ∙ ap (looked_up pous p) (sym same))

-- one element more
pub element_more : (pous : List Pou) (p : Pou) (pins left : List Pin) (es : List BodyElement) (i : ℕ) (e : BodyElement) (before whole : List DiagramElement) (x : DiagramElement)
    → i < length es → e ≡ get_or es i e → x ≡ element_of pous p (take (pins_of e.kind) pins) e → left ≡ drop (pins_of e.kind) pins
    → before ++ elements_from pous p pins (drop i es) ≡ whole → (before ++ x ∷ []) ++ elements_from pous p left (drop (i + 1) es) ≡ whole
element_more pous p pins left es i e before whole x within is made behind rest =
    let then = drop (i + 1) es in
    append_assoc before (x ∷ []) (elements_from pous p left then)
    ∙ ap (λ (y : DiagramElement). before ++ (y ∷ elements_from pous p left then)) made
    ∙ ap (λ (ps : List Pin). before ++ (element_of pous p (take (pins_of e.kind) pins) e ∷ elements_from pous p ps then)) behind
    ∙ ap (λ (y : BodyElement). before ++ elements_from pous p pins (y ∷ then)) is
    ∙ ap (λ (ys : List BodyElement). before ++ elements_from pous p pins ys) (sym (drop_more es i e within))
    ∙ rest
