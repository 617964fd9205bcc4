-- What is in range has parts that are.
use Rattle.std.proofs.Common.{◌≡◌, ℕ, ◌<◌, Bool, true, false, List, [], ◌∷◌, ◌++◌, map, length, get_or, zero, suc, sym, subst, arith}
use Rattle.std.specs.List.{fold}
use Rattle.plcx_types.specs.Lists.{Each}
use Rattle.plcx_meaning.specs.Tree.{Operator, Binary, Expression, expressions}
use Rattle.plcx_meaning.specs.Diagram.{Link, Contacting, Open, Closed, RisingContact, FallingContact, Storing, Stored, Inverted, Set, Reset}
use Rattle.plcx_meaning.specs.Templates.{not_if, or_text, link_text, source_text, contact_text, compared, store_text}
use Rattle.plcx_st.specs.InRange.{ExpressionInRange, ExpressionsInRange, StatementInRange}

pub each_parts : {A : Type 0} (P : A → Type 0) (xs ys : List A) → Each P (xs ++ ys) → Each P xs × Each P ys
each_parts P [] ys all = (tt, all)
each_parts P (x ∷ xs) ys all = let rest = each_parts P xs ys all.1 in ((all.0, rest.0), rest.1)

-- of a list within another one
pub each_within : {A : Type 0} (P : A → Type 0) (xs : List A) (y : A) (ys zs : List A) → Each P (xs ++ (y ∷ (ys ++ zs))) → Each P ys
each_within P xs y ys zs all = (each_parts P ys zs (each_parts P xs (y ∷ (ys ++ zs)) all).1.1).0

pub each_index : {A B C : Type 0} (P : C → Type 0) (f : B → C) (g : A → B) (xs : List A) (i : ℕ) (d : A) → i < length xs → Each P (map f (map g xs)) → P (f (g (get_or xs i d)))
each_index P f g [] i d low all = absurd (omega arith)
each_index P f g (x ∷ xs) zero d low all = all.0
each_index P f g (x ∷ xs) (suc i) d low all = each_index P f g xs i d (omega arith) all.1

pub each_item : {A B C : Type 0} (P : C → Type 0) (f : B → C) (g : A → B) (xs : List A) (i : ℕ) (x : A) → i < length xs → x ≡ get_or xs i x → Each P (map f (map g xs)) → P (f (g x))
each_item P f g xs i x low e all = subst (λ y. P (f (g y))) (sym e) (each_index P f g xs i x low all)

pub under_not : (b : Bool) (e : Expression) → ExpressionInRange (not_if b e) → ExpressionInRange e
under_not true e h = h
under_not false e h = h

pub joined_parts : (e : Expression) (es : List Expression) → ExpressionInRange (or_text e es) → ExpressionInRange e × Each ExpressionInRange es
joined_parts e [] h = (h, tt)
joined_parts e (s ∷ es) h = let parts = joined_parts (Binary Operator.Or e s) es h in (parts.0.0, (parts.0.1, parts.1))

pub link_parts : (l : Link) → ExpressionInRange (link_text l) → ExpressionInRange (source_text l.ty l.first) × Each ExpressionInRange (map (source_text l.ty) l.others)
link_parts l h = joined_parts (source_text l.ty l.first) (map (source_text l.ty) l.others) (under_not l.negated _ h)

pub contact_parts : (how : Contacting) (l v m : Expression) → ExpressionInRange (contact_text how l v m) → ExpressionInRange l × ExpressionInRange v
contact_parts Open l v m h = (h.0, h.1)
contact_parts Closed l v m h = (h.0, h.1)
contact_parts RisingContact l v m h = (h.0.0, h.0.1)
contact_parts FallingContact l v m h = (h.0.0, h.0.1)

pub fold_parts : (op : Operator) (e : Expression) (es : List Expression) → ExpressionInRange (fold (Binary op) e es) → ExpressionInRange e × Each ExpressionInRange es
fold_parts op e [] h = (h, tt)
fold_parts op e (s ∷ es) h = let parts = fold_parts op (Binary op e s) es h in (parts.0.0, (parts.0.1, parts.1))

pub compared_parts : (op : Operator) (so_far e : Expression) (es : List Expression) → ExpressionInRange (compared op so_far e es) → ExpressionInRange so_far × Each ExpressionInRange es
compared_parts op so_far e [] h = (h, tt)
compared_parts op so_far e (next ∷ es) h = let parts = compared_parts op (Binary Operator.And so_far (Binary op e next)) next es h in (parts.0.0, (parts.0.1.1, parts.1))

pub apply_parts : (es : List Expression) → ExpressionsInRange (expressions es) → Each ExpressionInRange es
apply_parts [] h = tt
apply_parts (e ∷ es) h = (h.0, apply_parts es h.1)

pub store_value : (how : Storing) (x : List ℕ) (e : Expression) → StatementInRange (store_text how x e) → ExpressionInRange e
store_value Stored x e h = h.1
store_value Inverted x e h = h.1
store_value Set x e h = h.0
store_value Reset x e h = h.0
