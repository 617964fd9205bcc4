-- The bytes of the file stand for its tree.
use Rattle.std.proofs.Common.{◌≡◌, ◌≤◌, ◌<◌, ◌+◌, ◌%◌, ◌^◌, ℕ, zero, suc, Bool, true, List, [], ◌∷◌, ◌++◌, length, map, max, fold, refl, ap, sym, subst, ◌∙◌, arith, append-nil}
use Rattle.std.specs.Prelude.{codes, nat_lt}
use Rattle.std.specs.List.{list_all, range_with_len}
use Rattle.std.specs.Fmt.{decimal}
use Rattle.std.specs.Str.{IsAscii}
use Rattle.std.proofs.lemmas.Fmt.{decimal_nonempty}
use Rattle.std.proofs.lemmas.Bool.{ltb-true}
use Rattle.std.proofs.lemmas.List.Folds.{list_all-append}
use Rattle.std.proofs.lemmas.Str.{chars-IsAscii, IsUtf8-from_ascii}
use Rattle.std.proofs.lemmas.Str.Ascii.{IsAscii-nil, IsAscii-cons}
use Rattle.plcx_xml.specs.Character.{is_value, is_plain, is_text, is_character}
use Rattle.plcx_xml.specs.Single.{is_single}
use Rattle.plcx_xml.specs.Events.{events_of, node_depth, element_depth, depth_of_element, joined}
use Rattle.plcx_xml.specs.Grammar.{AreTokens}
use Rattle.plcx_xml.specs.StandsForTree.{IsTreeOf}
use Rattle.plcx_xml.specs.declared.token.Token.{Token}
use Rattle.plcx_xml.specs.declared.tree.Node.{Node, fold-roll-Node}
use Rattle.plcx_xml.specs.declared.tree.Node.TheOpen.{Node-F}
use Rattle.plcx_xml.specs.declared.tree.Element.{fold-roll-Element}
use Rattle.plcx_xml.proofs.Runs.{both-true}
use Rattle.plcx_xml.proofs.TreeRuns.{depth_of}
use Rattle.plcx_xml.proofs.Views.{node-element}
use Rattle.plcx_bench_project.specs.Bench.{IsMeasured, variable_name, next_name, id_in}
use Rattle.plcx_bench_file.specs.Markup.{Piece, Pair, start_tag, node_of, around_at, element, empty, nothing, both, in_a_row}
use Rattle.plcx_bench_file.specs.File.{with, numbered, position, expression, input, point, pin, pins, result, addition, output, four, network, declaration, declarations, networks, program, inside, namespace, file, bench_bytes, root, bench_root}
use Rattle.plcx_bench_file.proofs.Digits.{digital, all-decimal}
use Rattle.plcx_bench_file.proofs.Stands.{Stands, IsPair, ArePairs, nothing-stands, both-stand, empty-stands, element-stands, words-stand}

-- a value that is written as it is, also as a text
pub record IsWritten (text : List ℕ) : Type 0 where
  pub some : 0 < length text
  pub inside : list_all (is_value 34) text ≡ true
  pub plain : list_all is_plain text ≡ true
  pub words : list_all is_text text ≡ true
  pub single : list_all is_single text ≡ true

pub decimal-written : (n : ℕ) → n < 2 ^ 64 → IsWritten (decimal n)
decimal-written n h = record {
  some = decimal_nonempty n h;
  inside = all-decimal (is_value 34) (digital (is_value 34) refl refl refl refl refl refl refl refl refl refl) n h;
  plain = all-decimal is_plain (digital is_plain refl refl refl refl refl refl refl refl refl refl) n h;
  words = all-decimal is_text (digital is_text refl refl refl refl refl refl refl refl refl refl) n h;
  single = all-decimal is_single (digital is_single refl refl refl refl refl refl refl refl refl refl) n h;
}

pub name-written : (n : ℕ) → n < 2 ^ 64 → IsWritten (variable_name n)
name-written n h =
    let d = decimal-written n h in
    record { some = omega arith; inside = d.inside; plain = d.plain; words = d.words; single = d.single }

position-stands : (y : List ℕ) → IsWritten y → Stands (position y)
position-stands y h = empty-stands (codes "position") (with (codes "x") (codes "0") ∷ with (codes "y") y ∷ []) (refl, refl)
    (record { named = (refl, refl); some = omega arith; inside = refl; plain = refl }, (record { named = (refl, refl); some = h.some; inside = h.inside; plain = h.plain }, tt))

expression-stands : (text : List ℕ) → IsWritten text → Stands (expression text)
expression-stands text h = words-stand (codes "expression") [] text (refl, refl) tt h.some h.words

input-stands : (id y text : List ℕ) → IsWritten id → IsWritten y → IsWritten text → Stands (input id y text)
input-stands id y text i h t = element-stands (codes "inVariable") (numbered id) (both (position y) (expression text)) (refl, refl) (record { named = (refl, refl); some = i.some; inside = i.inside; plain = i.plain }, tt)
    (both-stand (position y) (expression text) (position-stands y h) (expression-stands text t))

point-stands : (pairs : List Pair) → ArePairs pairs → Stands (point pairs)
point-stands pairs h = element-stands (codes "connectionPointIn") [] (empty (codes "connection") pairs) (refl, refl) tt (empty-stands (codes "connection") pairs (refl, refl) h)

refers : (id : List ℕ) → IsWritten id → IsPair (with (codes "refLocalId") id)
refers id h = record { named = (refl, refl); some = h.some; inside = h.inside; plain = h.plain }

formal : IsPair (with (codes "formalParameter") (codes "OUT"))
formal = record { named = (refl, refl); some = omega arith; inside = refl; plain = refl }

pin-stands : (name id : List ℕ) → IsWritten name → IsWritten id → Stands (pin name id)
pin-stands name id n h = element-stands (codes "variable") (with (codes "formalParameter") name ∷ []) (point (with (codes "refLocalId") id ∷ [])) (refl, refl)
    (record { named = (refl, refl); some = n.some; inside = n.inside; plain = n.plain }, tt) (point-stands (with (codes "refLocalId") id ∷ []) (refers id h, tt))

result-stands : Stands result
result-stands = element-stands (codes "outputVariables") [] (empty (codes "variable") (with (codes "formalParameter") (codes "OUT") ∷ [])) (refl, refl) tt
    (empty-stands (codes "variable") (with (codes "formalParameter") (codes "OUT") ∷ []) (refl, refl) (formal, tt))

pins-stand : (left right : List ℕ) → IsWritten left → IsWritten right → Stands (pins left right)
pins-stand left right l r = element-stands (codes "inputVariables") [] (both (pin (codes "IN1") left) (pin (codes "IN2") right)) (refl, refl) tt
    (both-stand (pin (codes "IN1") left) (pin (codes "IN2") right)
    (pin-stands (codes "IN1") left (record { some = omega arith; inside = refl; plain = refl; words = refl; single = refl }) l)
    (pin-stands (codes "IN2") right (record { some = omega arith; inside = refl; plain = refl; words = refl; single = refl }) r))

addition-stands : (id y left right : List ℕ) → IsWritten id → IsWritten y → IsWritten left → IsWritten right → Stands (addition id y left right)
addition-stands id y left right i h l r = element-stands (codes "block") (with (codes "localId") id ∷ with (codes "typeName") (codes "ADD") ∷ []) (both (position y) (both (pins left right) result)) (refl, refl)
    (record { named = (refl, refl); some = i.some; inside = i.inside; plain = i.plain }, (record { named = (refl, refl); some = omega arith; inside = refl; plain = refl }, tt))
    (both-stand (position y) (both (pins left right) result) (position-stands y h) (both-stand (pins left right) result (pins-stand left right l r) result-stands))

output-stands : (id y sum text : List ℕ) → IsWritten id → IsWritten y → IsWritten sum → IsWritten text → Stands (output id y sum text)
output-stands id y sum text i h s t =
    let pairs = with (codes "refLocalId") sum ∷ with (codes "formalParameter") (codes "OUT") ∷ [] in
    element-stands (codes "outVariable") (numbered id) (both (position y) (both (point pairs) (expression text))) (refl, refl) (record { named = (refl, refl); some = i.some; inside = i.inside; plain = i.plain }, tt)
    (both-stand (position y) (both (point pairs) (expression text)) (position-stands y h) (both-stand (point pairs) (expression text) (point-stands pairs (refers sum s, (formal, tt))) (expression-stands text t)))

number-written : IsWritten (codes "DINT#1")
number-written = record { some = omega arith; inside = refl; plain = refl; words = refl; single = refl }

pub four-stand : (one two three last y name next : List ℕ) → IsWritten one → IsWritten two → IsWritten three → IsWritten last → IsWritten y → IsWritten name → IsWritten next → Stands (four one two three last y name next)
four-stand one two three last y name next h1 h2 h3 h4 hy hn hm =
    both-stand (input one y name) (both (input two y (codes "DINT#1")) (both (addition three y one two) (output last y three next))) (input-stands one y name h1 hy hn)
    (both-stand (input two y (codes "DINT#1")) (both (addition three y one two) (output last y three next)) (input-stands two y (codes "DINT#1") h2 hy number-written)
    (both-stand (addition three y one two) (output last y three next) (addition-stands three y one two h3 hy h1 h2) (output-stands last y three next h4 hy h3 hm)))

pub declaration-stands : (name : List ℕ) → IsWritten name → Stands (declaration name)
declaration-stands name h = element-stands (codes "variable") (with (codes "name") name ∷ []) (element (codes "type") [] (empty (codes "DINT") [])) (refl, refl)
    (record { named = (refl, refl); some = h.some; inside = h.inside; plain = h.plain }, tt)
    (element-stands (codes "type") [] (empty (codes "DINT") []) (refl, refl) tt (empty-stands (codes "DINT") [] (refl, refl) tt))

file-pieces-stand : (variables body : Piece) → Stands variables → Stands body → Stands (file variables body)
file-pieces-stand variables body h g =
    element-stands (codes "project") namespace (inside variables body) (refl, refl) (record { named = (refl, refl); some = omega arith; inside = refl; plain = refl }, tt)
    (element-stands (codes "types") [] (element (codes "pous") [] (program variables body)) (refl, refl) tt
    (element-stands (codes "pous") [] (program variables body) (refl, refl) tt
    (element-stands (codes "pou") (with (codes "name") (codes "Bench") ∷ with (codes "pouType") (codes "program") ∷ [])
    (both (element (codes "interface") [] (element (codes "localVars") [] variables)) (element (codes "body") [] (element (codes "FBD") [] body))) (refl, refl)
    (record { named = (refl, refl); some = omega arith; inside = refl; plain = refl }, (record { named = (refl, refl); some = omega arith; inside = refl; plain = refl }, tt))
    (both-stand (element (codes "interface") [] (element (codes "localVars") [] variables)) (element (codes "body") [] (element (codes "FBD") [] body))
    (element-stands (codes "interface") [] (element (codes "localVars") [] variables) (refl, refl) tt (element-stands (codes "localVars") [] variables (refl, refl) tt h))
    (element-stands (codes "body") [] (element (codes "FBD") [] body) (refl, refl) tt (element-stands (codes "FBD") [] body (refl, refl) tt g))))))

-- bytes that are characters by themselves
all-of : (q : ℕ → Bool) (xs ys : List ℕ) → list_all q xs ≡ true → list_all q ys ≡ true → list_all q (xs ++ ys) ≡ true
all-of q [] ys h g = g
all-of q (x ∷ xs) ys h g =
    let p = both-true (q x) (list_all q xs) h in
    rw (p.0, all-of q xs ys p.1 g) refl

input-single : (id y text : List ℕ) → IsWritten id → IsWritten y → IsWritten text → list_all is_single (input id y text).bytes ≡ true
input-single id y text i h t = simp (list_all-append, i.single, h.single, t.single)

four-single : (one two three last y name next : List ℕ) → IsWritten one → IsWritten two → IsWritten three → IsWritten last → IsWritten y → IsWritten name → IsWritten next → list_all is_single (four one two three last y name next).bytes ≡ true
four-single one two three last y name next h1 h2 h3 h4 hy hn hm = simp (list_all-append, h1.single, h2.single, h3.single, h4.single, hy.single, hn.single, hm.single)

declaration-single : (name : List ℕ) → IsWritten name → list_all is_single (declaration name).bytes ≡ true
declaration-single name h = simp (list_all-append, h.single)

file-single : (variables body : Piece) → list_all is_single variables.bytes ≡ true → list_all is_single body.bytes ≡ true → list_all is_single (file variables body).bytes ≡ true
file-single variables body h g = simp (list_all-append, h, g)

-- what holds of each piece holds of all in a row
pub row-holds : (P : Piece → Type 0) → P nothing → ((p q : Piece) → P p → P q → P (both p q)) → (f : ℕ → Piece) (n : ℕ) → ((i : ℕ) → i < n → P (f i)) → (m a : ℕ) → a + m ≤ n → P (in_a_row (map f (range_with_len a m)))
row-holds P none two f n h zero a le = none
row-holds P none two f n h (suc m) a le = two (f a) (in_a_row (map f (range_with_len (a + 1) m))) (h a (omega arith)) (row-holds P none two f n h m (a + 1) (omega arith))

abbrev IsSingle : Piece → Type 0
IsSingle p = list_all is_single p.bytes ≡ true

next-written : (n i : ℕ) → IsMeasured n → IsWritten (next_name n i)
next-written n i m = name-written ((i + 1) % n) (omega (arith, m.some, m.few))

network-written : (P : Piece → Type 0) → ((one two three last y name next : List ℕ) → IsWritten one → IsWritten two → IsWritten three → IsWritten last → IsWritten y → IsWritten name → IsWritten next → P (four one two three last y name next)) → (n i : ℕ) → IsMeasured n → i < n → P (network n i)
network-written P h n i m lt =
    let few = m.few in
    h (decimal (id_in i 1)) (decimal (id_in i 2)) (decimal (id_in i 3)) (decimal (id_in i 4)) (decimal i) (variable_name i) (next_name n i)
    (decimal-written (id_in i 1) (omega arith)) (decimal-written (id_in i 2) (omega arith)) (decimal-written (id_in i 3) (omega arith)) (decimal-written (id_in i 4) (omega arith))
    (decimal-written i (omega arith)) (name-written i (omega arith)) (next-written n i m)

networks-stand : (n : ℕ) → IsMeasured n → Stands (networks n)
networks-stand n m = row-holds Stands nothing-stands both-stand (network n) n (λ i lt. network-written Stands four-stand n i m lt) n 0 (omega arith)

declarations-stand : (n : ℕ) → IsMeasured n → Stands (declarations n)
declarations-stand n m = let few = m.few in row-holds Stands nothing-stands both-stand (λ i. declaration (variable_name i)) n (λ i lt. declaration-stands (variable_name i) (name-written i (omega arith))) n 0 (omega arith)

networks-single : (n : ℕ) → IsMeasured n → IsSingle (networks n)
networks-single n m = row-holds IsSingle refl (λ p q. all-of is_single p.bytes q.bytes) (network n) n (λ i lt. network-written IsSingle four-single n i m lt) n 0 (omega arith)

declarations-single : (n : ℕ) → IsMeasured n → IsSingle (declarations n)
declarations-single n m = let few = m.few in row-holds IsSingle refl (λ p q. all-of is_single p.bytes q.bytes) (λ i. declaration (variable_name i)) n (λ i lt. declaration-single (variable_name i) (name-written i (omega arith))) n 0 (omega arith)

-- parts that aren't deeper than that
abbrev Within : ℕ → List Node → Type 0
Within d [] = Unit {0}
Within d (n ∷ ns) = (depth_of n ≤ d) × Within d ns

fold-within : (d : ℕ) (ns : List Node) (a : ℕ) → a ≤ d → Within d ns → fold max a (map depth_of ns) ≤ d
fold-within d [] a le h = le
fold-within d (n ∷ ns) a le h = let one = h.0 in fold-within d ns (max a (depth_of n)) (omega arith) h.1

within-append : (d : ℕ) (xs ys : List Node) → Within d xs → Within d ys → Within d (xs ++ ys)
within-append d [] ys h g = g
within-append d (x ∷ xs) ys h g = (h.0, within-append d xs ys h.1 g)

-- pieces that aren't deeper, wherever they begin
record IsShallow (d : ℕ) (p : Piece) : Type 0 where
  within : (at : ℕ) → Within d (p.nodes at)

depth-around : (name : List ℕ) (pairs : List Pair) (p : Piece) (at d : ℕ) → IsShallow d p → depth_of_element (around_at name pairs p at) ≤ d + 1
depth-around name pairs p at d h =
    let k = at + length (start_tag name pairs) in
    let same : depth_of_element (around_at name pairs p at) ≡ fold max 0 (map depth_of (p.nodes k)) + 1 = fold-roll-Element ℕ ℕ node_depth element_depth _ in
    let inner = fold-within d (p.nodes k) 0 (omega arith) (h.within k) in
    omega arith

element-shallow : (name : List ℕ) (pairs : List Pair) (p : Piece) (d : ℕ) → IsShallow d p → IsShallow (d + 1) (element name pairs p)
element-shallow name pairs p d h = record {
  within = λ at.
      let same : depth_of (node_of (around_at name pairs p at)) ≡ depth_of_element (around_at name pairs p at) = fold-roll-Node ℕ ℕ node_depth element_depth (Node-F.Element (around_at name pairs p at)) in
      let inner = depth-around name pairs p at d h in
      (omega arith, tt);
}

both-shallow : (d : ℕ) (p q : Piece) → IsShallow d p → IsShallow d q → IsShallow d (both p q)
both-shallow d p q h g = record { within = λ at. within-append d (p.nodes at) (q.nodes (at + length p.bytes)) (h.within at) (g.within (at + length p.bytes)) }

nothing-shallow : (d : ℕ) → IsShallow d nothing
nothing-shallow d = record { within = λ at. tt }

four-shallow : (one two three last y name next : List ℕ) → IsShallow 10 (four one two three last y name next)
four-shallow one two three last y name next = record { within = λ at. simp (fold-roll-Node, fold-roll-Element) (omega arith, (omega arith, (omega arith, (omega arith, tt)))) }

declaration-shallow : (name : List ℕ) → IsShallow 10 (declaration name)
declaration-shallow name = record { within = λ at. simp (fold-roll-Node, fold-roll-Element) (omega arith, tt) }

weaker : (d e : ℕ) (ns : List Node) → d ≤ e → Within d ns → Within e ns
weaker d e [] le h = tt
weaker d e (n ∷ ns) le h = let one = h.0 in (omega arith, weaker d e ns le h.1)

root-shallow : (variables body : Piece) → IsShallow 10 variables → IsShallow 10 body → depth_of_element (root variables body) ≤ 64
root-shallow variables body h g =
    let lists = element-shallow (codes "interface") [] (element (codes "localVars") [] variables) 11 (element-shallow (codes "localVars") [] variables 10 h) in
    let bodies = element-shallow (codes "body") [] (element (codes "FBD") [] body) 11 (element-shallow (codes "FBD") [] body 10 g) in
    let all = depth-around (codes "project") namespace (inside variables body) 0 15 (element-shallow (codes "types") [] (element (codes "pous") [] (program variables body)) 14 (element-shallow (codes "pous") [] (program variables body) 13
    (element-shallow (codes "pou") (with (codes "name") (codes "Bench") ∷ with (codes "pouType") (codes "program") ∷ [])
    (both (element (codes "interface") [] (element (codes "localVars") [] variables)) (element (codes "body") [] (element (codes "FBD") [] body))) 12
    (both-shallow 12 (element (codes "interface") [] (element (codes "localVars") [] variables)) (element (codes "body") [] (element (codes "FBD") [] body)) lists bodies)))) in
    omega arith

-- a text of such bytes
single-ascii : (bytes : List ℕ) → list_all is_single bytes ≡ true → IsAscii bytes
single-ascii [] h = IsAscii-nil
single-ascii (x ∷ xs) h =
    let p = both-true (is_single x) (list_all is_single xs) h in
    let one = both-true (nat_lt x 128) (is_character x) p.0 in
    IsAscii-cons x xs (ltb-true x 128 one.0) (single-ascii xs p.1)

single-known : (bytes : List ℕ) → list_all is_single bytes ≡ true → list_all is_character bytes ≡ true
single-known [] h = refl
single-known (x ∷ xs) h =
    let p = both-true (is_single x) (list_all is_single xs) h in
    let one = both-true (nat_lt x 128) (is_character x) p.0 in
    rw one.1 (single-known xs p.1)

-- the bytes of a file are of that tree, where its pieces stand
tree-of : (variables body : Piece) → Stands variables → Stands body → IsSingle variables → IsSingle body → IsShallow 10 variables → IsShallow 10 body → IsTreeOf (file variables body).bytes (root variables body)
tree-of variables body h g hs gs hd gd =
    let stands = file-pieces-stand variables body h g in
    let bytes = (file variables body).bytes in
    let single = file-single variables body hs gs in
    let ascii = single-ascii bytes single in
    let tokens = stands.tokens 0 in
    let made : AreTokens 0 bytes tokens [] = subst (λ (xs : List ℕ). AreTokens 0 xs tokens []) (append-nil bytes) (stands.spelled 0 []) in
    record {
      stands = record {
        before = [];
        inner = tokens;
        after = [];
        tokens = record {
          text = IsUtf8-from_ascii bytes ascii;
          characters = subst (λ (cs : List ℕ). list_all is_character cs ≡ true) (sym (chars-IsAscii bytes ascii)) (single-known bytes single);
          tokens = subst (λ (ts : List Token). AreTokens 0 bytes ts []) (sym (append-nil tokens)) made;
        };
        alone = (tt, tt);
        same = ap joined (stands.events 0) ∙ (stands.joins 0 [] ∙ (append-nil (events_of (node_of (root variables body))) ∙ node-element (root variables body)));
      };
      depth = root-shallow variables body hd gd;
    }

-- the bytes of n networks are of their tree
pub bench-tree : (n : ℕ) → IsMeasured n → IsTreeOf (bench_bytes n) (bench_root n)
bench-tree n m = tree-of (declarations n) (networks n) (declarations-stand n m) (networks-stand n m) (declarations-single n m) (networks-single n m)
    (row-holds (IsShallow 10) (nothing-shallow 10) (both-shallow 10) (λ i. declaration (variable_name i)) n (λ i lt. declaration-shallow (variable_name i)) n 0 (omega arith))
    (row-holds (IsShallow 10) (nothing-shallow 10) (both-shallow 10) (network n) n (λ i lt. network-written (IsShallow 10) (λ one two three last y name next h1 h2 h3 h4 h5 h6 h7. four-shallow one two three last y name next) n i m lt) n 0 (omega arith))
