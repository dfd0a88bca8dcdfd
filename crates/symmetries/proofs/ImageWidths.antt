-- The widths over the image of a set.
--     member_bit, partner_member      the members of a set by its bits; those of its image are their partners
--     image_width, renamed_width      the width of a variable's partner over the image of a set is that of the variable over the set
--     own_widths      a set keeps its own widths
--     kept_through, linked_kept, pushed_kept, taken_on      widths that are kept in one set after another
--     renamed_after      widths that are kept are kept by one exchange more
use Rattle.std.proofs.Common.{◌≡◌, ℕ, ◌^◌, ◌<◌, ◌≤◌, not, ◌&&◌, List, length, slice_index, eqb, refl, sym, ap, ◌∙◌, subst, arith, inl, inr, [], ◌∷◌, ◌++◌, set, get_or}
use Rattle.std.proofs.lemmas.Bool.{cases_eq, cases_lt}
use Rattle.std.proofs.lemmas.List.{get_or_append_left, get_or_push, get_or-set_same, get_or-set_other, length-append, length-set}
use Rattle.symmetries.specs.declared.orbits.Image.{Image}
use Rattle.std.specs.Int.{bit_at}
use Rattle.std.specs.Prelude.{nat_eq}
use Rattle.definitions.specs.Orders.{has, members, without}
use Rattle.definitions.specs.Functions.{Function}
use Rattle.definitions.specs.Problems.{TruthTables, functions}
use Rattle.definitions.specs.Widths.{width}
use Rattle.definitions.proofs.Lists.Orders.{has_variables}
use Rattle.definitions.proofs.Bits.Masks.{has_members}
use Rattle.definitions.proofs.Widths.Recurrence.{has_without}
use Rattle.symmetries.specs.Exchanges.{IsExchange}
use Rattle.symmetries.specs.Images.{IsImage}
use Rattle.symmetries.specs.Orbits.{AreKept, ExchangeOf, IsAfter, IsExchangeOf, KeepsWidths, TakesWidths, width_into}
use Rattle.symmetries.specs.Renamings.{IsRenamed, RenamedOf}
use Rattle.symmetries.proofs.Partners.{same_partner}
use Rattle.symmetries.proofs.PointValues.{renamed_back, renamed_moved}
use Rattle.symmetries.proofs.SymmetricWidths.{AreMoved, symmetric_moved, width_moved}

-- a variable of n is a member of a set just if its bit is in the mask
pub member_bit : (n S y : ℕ) → y < n → has (members n S) y ≡ eqb (bit_at S y) 1
member_bit n S y l = has_members n S y ∙ ap (λ b. b && eqb (bit_at S y) 1) ((has_variables n y).1 l)

-- the members of the image of a set are the partners of its members
pub partner_member : (n : ℕ) (partners : List ℕ) → IsExchange n partners → (S T y : ℕ) → IsImage n partners S T → y < n →
    has (members n T) (slice_index partners y) ≡ has (members n S) y
partner_member n partners exchange S T y image l = grind (arith, member_bit, slice_index)

-- so it is for the two sets without a variable and its partner
without_partner : (n : ℕ) (partners : List ℕ) → IsExchange n partners → (S T x y : ℕ) → IsImage n partners S T → x < n → y < n →
    has (without (slice_index partners x) (members n T)) (slice_index partners y) ≡ has (without x (members n S)) y
without_partner n partners exchange S T x y image m l =
    has_without (slice_index partners x) (members n T) (slice_index partners y)
    ∙ ap (λ b. b && not (nat_eq (slice_index partners x) (slice_index partners y))) (partner_member n partners exchange S T y image l)
    ∙ ap (λ b. has (members n S) y && not b) (same_partner n partners exchange x y m l)
    ∙ sym (has_without x (members n S) y)

-- if functions are each other's at exchanged points, the width of a variable's partner over the image of a set is that of the variable over the set
moved_width : (n : ℕ) (F G : List Function) (partners : List ℕ) → IsExchange n partners → AreMoved n partners F G → AreMoved n partners G F →
    (S T x : ℕ) → IsImage n partners S T → x < n →
    width n G (without (slice_index partners x) (members n T)) (slice_index partners x) ≡ width n F (without x (members n S)) x
moved_width n F G partners exchange to_g to_f S T x image inside = omega (arith, to, from)
  where
    here : List ℕ
    here = without x (members n S)

    there : List ℕ
    there = without (slice_index partners x) (members n T)

    same : (y : ℕ) → y < n → has there (slice_index partners y) ≡ has here y
    same y l = without_partner n partners exchange S T x y image inside l

    again : (y : ℕ) → y < n → has here (slice_index partners y) ≡ has there y
    again y l = sym (same (slice_index partners y) (exchange.inside y l)) ∙ ap (has there) (exchange.back y l)

    to : width n G there (slice_index partners x) ≤ width n F here x
    to = width_moved n F G partners exchange to_g here there x inside same

    from : width n F here x ≤ width n G there (slice_index partners x)
    from =
        subst (λ y. width n F here y ≤ width n G there (slice_index partners x)) (exchange.back x inside)
        (width_moved n G F partners exchange to_f there here (slice_index partners x) (exchange.inside x inside) again)

-- under an exchange that changes no function the width of a variable's partner over the image of a set is that of the variable over the set
pub image_width : (p : TruthTables) (e : ExchangeOf) → IsExchangeOf p e → (S x : ℕ) → S < 2 ^ p.inputs → x < p.inputs →
    width_into p (slice_index e.images S) (slice_index e.partners x) ≡ width_into p S x
unfolding width_into
image_width p e is S x small =
    let moved = symmetric_moved p.inputs (functions p) e.partners is.symmetric in
    moved_width p.inputs (functions p) (functions p) e.partners is.is_exchange moved moved S (slice_index e.images S) x (is.images_are.each S small)

-- so it is with the functions that have exchanged variables
pub renamed_width : (p : TruthTables) (r : RenamedOf) → IsRenamed p r → (S x : ℕ) → S < 2 ^ p.inputs → x < p.inputs →
    width_into r.problem (slice_index r.exchange.images S) (slice_index r.exchange.partners x) ≡ width_into p S x
unfolding width_into
renamed_width p r is S x small inside =
    ap (λ n. width n (functions r.problem) (without y (members n T)) y) is.inputs
    ∙ moved_width p.inputs (functions p) (functions r.problem) r.exchange.partners is.is_exchange (renamed_moved p r is) (renamed_back p r is) S T x
    (is.images_are.each S small) inside
  where
    y : ℕ
    y = slice_index r.exchange.partners x

    T : ℕ
    T = slice_index r.exchange.images S

-- a set keeps its own widths
pub own_widths : (p : TruthTables) (S : ℕ) (variables : List ℕ) → p.inputs ≤ 16 → S < 2 ^ p.inputs → ((x : ℕ) → x < 16 → slice_index variables x ≡ x) →
    KeepsWidths p S S variables
own_widths p S variables few small own = record {
  inputs = refl;
  small = small;
  inside = λ x l. subst (λ y. y < p.inputs) (sym (own x (omega arith))) l;
  bits = λ x l. ap (bit_at S) (own x (omega arith));
  widths = λ x l. ap (width_into p S) (own x (omega arith));
}

-- the image of a set under an exchange keeps its widths where the set keeps its own
pub kept_through : (p : TruthTables) (e : ExchangeOf) (S T U : ℕ) (variables joined : List ℕ) → p.inputs ≤ 16 → IsExchangeOf p e → S < 2 ^ p.inputs →
    KeepsWidths p S T variables → U ≡ slice_index e.images S →
    ((x : ℕ) → x < 16 → slice_index joined x ≡ slice_index variables (slice_index e.partners x)) → KeepsWidths p U T joined
kept_through p e S T U variables joined few is small kept there each = subst (λ V. KeepsWidths p V T joined) (sym there) (record {
  inputs = refl;
  small = kept.small;
  inside = λ x l. subst (λ y. y < p.inputs) (sym (goes x l)) (kept.inside (slice_index e.partners x) (is.is_exchange.inside x l));
  bits = λ x l. ap (bit_at T) (goes x l) ∙ kept.bits (slice_index e.partners x) (is.is_exchange.inside x l) ∙ sym (image.bits x l);
  widths = λ x l.
      ap (width_into p T) (goes x l) ∙ kept.widths (slice_index e.partners x) (is.is_exchange.inside x l)
      ∙ sym (image_width p e is S (slice_index e.partners x) small (is.is_exchange.inside x l))
      ∙ ap (width_into p (slice_index e.images S)) (is.is_exchange.back x l);
})
  where
    image : IsImage p.inputs e.partners S (slice_index e.images S)
    image = is.images_are.each S small

    goes : (x : ℕ) → x < p.inputs → slice_index joined x ≡ slice_index variables (slice_index e.partners x)
    goes x l = each x (omega arith)

-- so it is in a list of the images of all sets
pub linked_kept : (p : TruthTables) (e : ExchangeOf) (images : List Image) (S U : ℕ) (own joined : Image) → p.inputs ≤ 16 → IsExchangeOf p e →
    AreKept p images → S < length images → own ≡ get_or images S own → S < length e.images → U ≡ slice_index e.images S → U < length images →
    joined.set ≡ own.set → ((x : ℕ) → x < 16 → slice_index joined.variables x ≡ slice_index own.variables (slice_index e.partners x)) →
    AreKept p (set images U joined)
linked_kept p e images S U own joined few is kept here at there place within same each V d l small = elim (cases_eq V U) [
  | inl v ↦
      subst (λ (i : Image). KeepsWidths p V i.set i.variables) (sym (ap (λ k. get_or (set images U joined) k d) v ∙ get_or-set_same images U joined d within))
      (subst (λ k. KeepsWidths p k joined.set joined.variables) (sym v)
      (subst (λ T. KeepsWidths p U T joined.variables) (sym same)
      (kept_through p e S own.set U own.variables joined.variables few is inside
      (subst (λ (i : Image). KeepsWidths p S i.set i.variables) (sym at) (kept S own here inside)) place each)))
  | inr ne ↦
      subst (λ (i : Image). KeepsWidths p V i.set i.variables) (sym (get_or-set_other images U V joined d ne))
      (kept V d (subst (λ k. V < k) (length-set images U joined) l) small)
]
  where
    inside : S < 2 ^ p.inputs
    inside = omega (arith, is.images_are.long, there)

-- one more image that keeps widths
pub pushed_kept : (p : TruthTables) (images : List Image) (image : Image) → AreKept p images →
    (length images < 2 ^ p.inputs → KeepsWidths p (length images) image.set image.variables) → AreKept p (images ++ image ∷ [])
pushed_kept p images image kept own V d l small = elim (cases_lt V (length images)) [
  | inl lt ↦ subst (λ (i : Image). KeepsWidths p V i.set i.variables) (sym (get_or_append_left images (image ∷ []) d V lt)) (kept V d lt small)
  | inr ge ↦
      let last : V ≡ length images = omega (arith, length-append images (image ∷ [])) in
      subst (λ (i : Image). KeepsWidths p V i.set i.variables) (sym (get_or_push images image d V (sym last)))
      (subst (λ k. KeepsWidths p k image.set image.variables) (sym last) (own (subst (λ k. k < 2 ^ p.inputs) last small)))
]

-- widths that are taken to a set are taken on to where that keeps its own
pub taken_on : (p q : TruthTables) (S T U : ℕ) (variables further joined : List ℕ) → p.inputs ≤ 16 → TakesWidths p q S T variables →
    KeepsWidths q T U further → ((x : ℕ) → x < 16 → slice_index joined x ≡ slice_index further (slice_index variables x)) → TakesWidths p q S U joined
taken_on p q S T U variables further joined few taken kept each = record {
  inputs = taken.inputs;
  small = kept.small;
  inside = λ x l. subst (λ y. y < q.inputs) (sym (goes x l)) (kept.inside (slice_index variables x) (taken.inside x l));
  bits = λ x l. ap (bit_at U) (goes x l) ∙ kept.bits (slice_index variables x) (taken.inside x l) ∙ taken.bits x l;
  widths = λ x l. ap (width_into q U) (goes x l) ∙ kept.widths (slice_index variables x) (taken.inside x l) ∙ taken.widths x l;
}
  where
    goes : (x : ℕ) → x < p.inputs → slice_index joined x ≡ slice_index further (slice_index variables x)
    goes x l = each x (omega arith)

-- an exchange takes a set's own widths to those of the functions with exchanged variables
pub renamed_after : (p : TruthTables) (r : RenamedOf) (S U : ℕ) (variables moved : List ℕ) → p.inputs ≤ 16 → IsRenamed p r → S < 2 ^ p.inputs →
    ((x : ℕ) → x < 16 → slice_index variables x ≡ x) → IsAfter r.exchange S variables U moved → TakesWidths p r.problem S U moved
renamed_after p r S U variables moved few is small own after = subst (λ V. TakesWidths p r.problem S V moved) (sym after.set) (record {
  inputs = is.inputs;
  small = subst (λ n. slice_index r.exchange.images S < 2 ^ n) (sym is.inputs) image.small;
  inside = λ x l. subst (λ y. y < r.problem.inputs) (sym (goes x l)) (omega (arith, is.is_exchange.inside x l, is.inputs));
  bits = λ x l.
      ap (bit_at (slice_index r.exchange.images S)) (goes x l)
      ∙ image.bits (slice_index r.exchange.partners x) (is.is_exchange.inside x l) ∙ ap (bit_at S) (is.is_exchange.back x l);
  widths = λ x l. ap (width_into r.problem (slice_index r.exchange.images S)) (goes x l) ∙ renamed_width p r is S x small l;
})
  where
    image : IsImage p.inputs r.exchange.partners S (slice_index r.exchange.images S)
    image = is.images_are.each S small

    goes : (x : ℕ) → x < p.inputs → slice_index moved x ≡ slice_index r.exchange.partners x
    goes x l =
        after.each x (omega arith) (omega (arith, is.is_exchange.long, own x (omega arith))) ∙ ap (slice_index r.exchange.partners) (own x (omega arith))
