-- What is said of layers by their indexes is said of the layers.
use Rattle.std.proofs.Common.{◌≡◌, ◌⊎◌, inl, inr, ℕ, zero, suc, ◌+◌, ◌<◌, ◌≤◌, ◌/◌, arith, [], ◌∷◌, ◌++◌, List, length, take, drop, get_or, refl, ap, sym, subst, ◌∙◌, Result, Ok, Err, pos}
use Rattle.std.specs.Prelude.{All}
use Rattle.std.specs.List.{Any, AllZip}
use Rattle.std.proofs.lemmas.List.{take_more, take_all}
use Rattle.std.proofs.lemmas.List.Elements.{All-nil, All-cons, All-weaker}
use Rattle.scad_geom.specs.declared.point.Edge.{Edge}
use Rattle.gcode_text.specs.declared.machine.Move.{Move}
use Rattle.cli_read.specs.declared.layers.CliLayer.{CliLayer}
use Rattle.cli_read.specs.View.{seen, layer_of}
use Rattle.plan_verify.specs.declared.field.Field.{Field}
use Rattle.plan_verify.specs.declared.verdict.Verdict.{Verdict}
use Rattle.plan_verify.specs.declared.verdict.Verdict.TheVariants.{Inside, Outside}
use Rattle.plan_verify.specs.declared.verdict.VerifyFault.{VerifyFault}
use Rattle.plan_verify.specs.Stays.{KeepsClear, from_above, IsInLayer, Stays}
use Rattle.plan_verify.specs.Fields.{IsSound, IsFieldOf, IsInField, StaysInFields}
use Rattle.plan_verify.specs.Verdict.{Told, AllDo, IsJudgedBy, IsVerdictBy, extruding}

pub sound_fields : (layers : List CliLayer) (fields : List Field) → AllZip IsFieldOf layers fields
    → All IsSound fields
sound_fields [] [] h = All-nil IsSound
sound_fields [] (f ∷ fields) h = absurd h
sound_fields (l ∷ layers) [] h = absurd h
sound_fields (l ∷ layers) (f ∷ fields) h = All-cons IsSound f fields h.0.sound (sound_fields layers fields h.1)

-- ---- fields one by one
zip_push : {A B : Type 0} (R : A → B → Type 0) (xs : List A) (ys : List B) (x : A) (y : B) → AllZip R xs ys
    → R x y → AllZip R (xs ++ x ∷ []) (ys ++ y ∷ [])
zip_push R [] [] x y h r = (r, tt)
zip_push R [] (b ∷ ys) x y h r = absurd h
zip_push R (a ∷ xs) [] x y h r = absurd h
zip_push R (a ∷ xs) (b ∷ ys) x y h r = (h.0, zip_push R xs ys x y h.1 r)

pub zip_more : (layers : List CliLayer) (fields : List Field) (k : ℕ) (l : CliLayer) (f : Field) → k < length layers
    → l ≡ get_or layers k l → AllZip IsFieldOf (take k layers) fields → IsFieldOf l f
    → AllZip IsFieldOf (take (k + 1) layers) (fields ++ f ∷ [])
zip_more layers fields k l f more is zip field =
    subst (λ (ls : List CliLayer). AllZip IsFieldOf ls (fields ++ f ∷ [])) (sym (take_more layers k l more))
    (zip_push IsFieldOf (take k layers) fields (get_or layers k l) f zip
    (subst (λ (x : CliLayer). IsFieldOf x f) is field))

pub zip_all : (layers : List CliLayer) (fields : List Field) (k : ℕ) → length layers ≤ k
    → AllZip IsFieldOf (take k layers) fields → AllZip IsFieldOf layers fields
zip_all layers fields k l zip = subst (λ (ls : List CliLayer). AllZip IsFieldOf ls fields) (take_all k layers l) zip

-- ---- one layer
module _ (width : ℕ) (m : Move) where
  in_layer : (l : CliLayer) (f : Field) → IsFieldOf l f → IsInField width m f → IsInLayer width m (layer_of l)
  in_layer l f o i = record {
    height = sym (ap pos o.z) ∙ i.height;
    clear = subst (λ (es : List Edge). KeepsClear es (width / 2) (from_above m)) o.sides i.clear;
  }

  in_field : (l : CliLayer) (f : Field) → IsFieldOf l f → IsInLayer width m (layer_of l) → IsInField width m f
  in_field l f o i = record {
    height = ap pos o.z ∙ i.height;
    clear = subst (λ (es : List Edge). KeepsClear es (width / 2) (from_above m)) (sym o.sides) i.clear;
  }

-- ---- some item of a list
any_here : {X : Type 0} (P : X → Type 0) (x : X) (xs : List X) → P x → Any P (x ∷ xs)
any_here P x xs p = (0, x, omega arith, refl, p)

any_there : {X : Type 0} (P : X → Type 0) (x : X) (xs : List X) → Any P xs → Any P (x ∷ xs)
any_there P x xs (k, y, l, e, p) = (suc k, y, omega (arith, l), e, p)

any_cases : {X : Type 0} (P : X → Type 0) (x : X) (xs : List X) → Any P (x ∷ xs) → P x ⊎ Any P xs
any_cases P x xs (zero, y, l, e, p) = inl (subst P (sym e) p)
any_cases P x xs (suc k, y, l, e, p) = inr (k, y, omega (arith, l), e, p)

none_any : {X : Type 0} (P : X → Type 0) → Any P [] → ⊥
none_any P (k, y, l, e, p) = absurd (omega (arith, l))

-- an item of a part is one of the whole
any_dropped : {X : Type 0} (P : X → Type 0) (n : ℕ) (xs : List X) → Any P (drop n xs) → Any P xs
any_dropped P zero xs a = a
any_dropped P (suc n) [] a = a
any_dropped P (suc n) (x ∷ xs) a = any_there P x xs (any_dropped P n xs a)

any_taken : {X : Type 0} (P : X → Type 0) (n : ℕ) (xs : List X) → Any P (take n xs) → Any P xs
any_taken P zero xs a = absurd (none_any P a)
any_taken P (suc n) [] a = a
any_taken P (suc n) (x ∷ xs) a = elim (any_cases P x (take n xs) a) [
  | inl p ↦ any_here P x xs p
  | inr q ↦ any_there P x xs (any_taken P n xs q)
]

pub stays_behind : (fields : List Field) (at n width : ℕ) (m : Move)
    → StaysInFields (take n (drop at fields)) width m → StaysInFields fields width m
stays_behind fields at n width m s = record {
  level = s.level;
  field = any_dropped (IsInField width m) at fields (any_taken (IsInField width m) n (drop at fields) s.field);
}

module _ (width : ℕ) (m : Move) where
  any_layer : (layers : List CliLayer) (fields : List Field) → AllZip IsFieldOf layers fields
      → Any (IsInField width m) fields → Any (IsInLayer width m) (seen layers)
  any_layer [] [] h a = absurd (none_any (IsInField width m) a)
  any_layer [] (f ∷ fields) h a = absurd h
  any_layer (l ∷ layers) [] h a = absurd h
  any_layer (l ∷ layers) (f ∷ fields) h a = elim (any_cases (IsInField width m) f fields a) [
    | inl p ↦ any_here (IsInLayer width m) (layer_of l) (seen layers) (in_layer width m l f h.0 p)
    | inr q ↦ any_there (IsInLayer width m) (layer_of l) (seen layers) (any_layer layers fields h.1 q)
  ]

  any_field : (layers : List CliLayer) (fields : List Field) → AllZip IsFieldOf layers fields
      → Any (IsInLayer width m) (seen layers) → Any (IsInField width m) fields
  any_field [] [] h a = absurd (none_any (IsInLayer width m) a)
  any_field [] (f ∷ fields) h a = absurd h
  any_field (l ∷ layers) [] h a = absurd h
  any_field (l ∷ layers) (f ∷ fields) h a = elim (any_cases (IsInLayer width m) (layer_of l) (seen layers) a) [
    | inl p ↦ any_here (IsInField width m) f fields (in_field width m l f h.0 p)
    | inr q ↦ any_there (IsInField width m) f fields (any_field layers fields h.1 q)
  ]

-- ---- verdicts over what is alike
module _ (S T : Move → Type 0) (to : (m : Move) → S m → T m) (from : (m : Move) → T m → S m) where
  all_do : (moves : List Told) → AllDo S moves → AllDo T moves
  all_do moves all = All-weaker (λ told. S told.move) (λ told. T told.move) (λ told. to told.move) moves all

  judged_alike : (moves : List Told) (v : Verdict) → IsJudgedBy S moves v → IsJudgedBy T moves v
  judged_alike moves (Inside number) (all, e) = (all_do moves all, e)
  judged_alike moves (Outside number line) f = record {
    before = f.before;
    out = f.out;
    behind = f.behind;
    are = f.are;
    all = all_do f.before f.all;
    fails = λ t. f.fails (from f.out.move t);
    number = f.number;
    line = f.line;
  }

  verdict_alike : (program : List ℕ) (r : Result Verdict VerifyFault) → IsVerdictBy S program r
      → IsVerdictBy T program r
  verdict_alike program (Ok v) (moves, e, j) = (moves, e, judged_alike (extruding moves) v j)
  verdict_alike program (Err fault) h = h

pub verdict_of_layers : (layers : List CliLayer) (fields : List Field) (width : ℕ) (program : List ℕ)
    (r : Result Verdict VerifyFault) → AllZip IsFieldOf layers fields
    → IsVerdictBy (StaysInFields fields width) program r → IsVerdictBy (Stays (seen layers) width) program r
verdict_of_layers layers fields width program r zip h =
    verdict_alike (StaysInFields fields width) (Stays (seen layers) width)
    (λ m s. record { level = s.level; layer = any_layer width m layers fields zip s.field })
    (λ m s. record { level = s.level; field = any_field width m layers fields zip s.layer }) program r h
