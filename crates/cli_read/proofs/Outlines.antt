-- An outline is read of its line, and of no other.
use Rattle.std.proofs.Common.{◌≡◌, ℕ, suc, ◌+◌, ◌-◌, ◌≤◌, Bool, true, false, cond, List, [], ◌∷◌, ◌++◌, length, take, get_or, nat_le, refl, ap, sym, subst, ◌∙◌, arith, append_assoc, Result, Ok, Err, ◌<◌, ◌^◌}
use Rattle.std.specs.Prelude.{◌==◌, ◌&&◌, codes}
use Rattle.std.specs.Ordering.{int_eq}
use Rattle.std.specs.Fmt.{decimal, signed_decimal}
use Rattle.std.specs.List.{AllByRecursion}
use Rattle.std.proofs.lemmas.Bool.{and_parts, eqb-true}
use Rattle.std.proofs.lemmas.Bool.Decides.{nat_tests, Decides-int_eq}
use Rattle.std.proofs.lemmas.List.{take_at, take_all, length-append, length-take}
use Rattle.std.proofs.Math.Seq.{take-suc, get_or-append_seam}
use Rattle.scad_base.proofs.Lists.{AllByRecursion-append}
use Rattle.scad_geom.specs.declared.point.Pt.{Pt}
use Rattle.scad_geom.specs.Limits.{coordinate_limit}
use Rattle.scad_geom.specs.Within.{IsWithin}
use Rattle.cli_text.specs.Cli.{closed, polyline_start}
use Rattle.cli_read.specs.declared.fault.CliFault.{CliFault}
use Rattle.cli_read.specs.declared.fault.CliFault.TheVariants.{BadLine, CountDiffers, OpenLoop}
use Rattle.cli_read.specs.Form.{IsShape, IsOutline}
use Rattle.cli_read.specs.Reading.{◌>>=◌, or_bad, origin, same_point, ends_meet, words, count_of, coordinate_of, point_at, points_at, joined_at, closed_at, direction_at, outline_at}
use Rattle.cli_read.proofs.Results.{bind_ok, bound, ok_is, passed, or_bad_ok}
use Rattle.cli_read.proofs.Numbers.{count_text, count_back, coordinate_text, coordinate_back}
use Rattle.cli_read.proofs.CommaWords.{coordinate_words, points_text, same_words, words_of_outline}

-- ---- points

point_text_is : (n : ℕ) (x y : List ℕ) (p : Pt) → point_at n x y ≡ Ok p → (x ≡ signed_decimal p.x)
    × (y ≡ signed_decimal p.y) × IsWithin coordinate_limit p
unfolding point_at
point_text_is n x y p e =
    let a = bind_ok (or_bad n (coordinate_of x)) (λ left. or_bad n (coordinate_of y) >>=
    λ up. Ok (record { x = left; y = up })) p e in
    let b = bind_ok (or_bad n (coordinate_of y)) (λ up. Ok (record { x = a.0; y = up })) p a.2 in
    let left = coordinate_text x a.0 (or_bad_ok n (coordinate_of x) a.0 a.1) in
    let up = coordinate_text y b.0 (or_bad_ok n (coordinate_of y) b.0 b.1) in
    let point : Pt = record { x = a.0; y = b.0 } in
    subst (λ (q : Pt). (x ≡ signed_decimal q.x) × (y ≡ signed_decimal q.y) × IsWithin coordinate_limit q)
    (ok_is point p b.2)
    (left.0, up.0, record { x = left.1; y = up.1 })

point_back : (n : ℕ) (p : Pt) → IsWithin coordinate_limit p
    → point_at n (signed_decimal p.x) (signed_decimal p.y) ≡ Ok p
unfolding point_at
point_back n p near = rw (coordinate_back p.x near.x, coordinate_back p.y near.y) refl

pub points_are : (n : ℕ) (ws : List (List ℕ)) (ps : List Pt) → points_at n ws ≡ Ok ps → (ws ≡ coordinate_words ps)
    × AllByRecursion (IsWithin coordinate_limit) ps
unfolding points_at
points_are n [] ps e = subst
    (λ (qs : List Pt). ([] ≡ coordinate_words qs) × AllByRecursion (IsWithin coordinate_limit) qs)
    (ok_is [] ps e)
    (refl, tt)
points_are n (x ∷ []) ps e = absurd cc
points_are n (x ∷ y ∷ rest) ps e =
    let a = bind_ok (point_at n x y) (λ p. points_at n rest >>= λ qs. Ok (p ∷ qs)) ps e in
    let b = bind_ok (points_at n rest) (λ qs. Ok (a.0 ∷ qs)) ps a.2 in
    let point = point_text_is n x y a.0 a.1 in
    let more = points_are n rest b.0 b.1 in
    let all : List Pt = a.0 ∷ b.0 in
    subst (λ (qs : List Pt). (x ∷ y ∷ rest ≡ coordinate_words qs) × AllByRecursion (IsWithin coordinate_limit) qs)
    (ok_is all ps b.2)
    ((λ i. point.0 i ∷ point.1 i ∷ more.0 i), (point.2, more.1))

pub points_back : (n : ℕ) (ps : List Pt) → AllByRecursion (IsWithin coordinate_limit) ps
    → points_at n (coordinate_words ps) ≡ Ok ps
unfolding points_at
points_back n [] near = refl
points_back n (p ∷ ps) near = rw (point_back n p near.0, points_back n ps near.1) refl

-- ---- closed outlines

same_point_is : (p q : Pt) → same_point p q ≡ true → p ≡ q
same_point_is p q e =
    let both = and_parts (int_eq p.x q.x) (int_eq p.y q.y) e in
    let x = (Decides-int_eq p.x q.x).0 both.0 in
    let y = (Decides-int_eq p.y q.y).0 both.1 in
    λ i. record { x = x i; y = y i }

same_point_itself : (p : Pt) → same_point p p ≡ true
same_point_itself p = rw ((Decides-int_eq p.x p.x).1 refl, (Decides-int_eq p.y p.y).1 refl) refl

-- without its last point, which is the first, and with the first again
closed_again : (points : List Pt) → 2 ≤ length points → ends_meet points ≡ true
    → closed (take (length points - 1) points) ≡ points
closed_again [] h e = absurd (omega arith)
closed_again (p ∷ []) h e = absurd (omega arith)
closed_again (p ∷ q ∷ ps) h e =
    let all : List Pt = q ∷ ps in
    let index : length (p ∷ all) - 1 ≡ suc (length ps) = omega arith in
    let same : p ≡ get_or all (length ps) origin =
    same_point_is p (get_or (p ∷ all) (length (p ∷ all) - 1) origin) e ∙ ap (λ (k : ℕ). get_or (p ∷ all) k origin) index
    in
    ap (λ (k : ℕ). closed (take k (p ∷ all))) index
    ∙ ap (λ (r : Pt). p ∷ (take (length ps) all ++ r ∷ [])) same
    ∙ ap (λ (rs : List Pt). p ∷ rs) (sym (take-suc all (length ps) origin (omega arith)) ∙ take_all (suc (length ps))
    all (omega arith))

abbrev IsClosed : List Pt → ℕ → List Pt → Type 0
IsClosed points said outline = (points ≡ closed outline) × (said ≡ length outline + 1) × (3 ≤ length outline)

closed_are : (n said : ℕ) (points outline : List Pt) → closed_at n said points ≡ Ok outline
    → IsClosed points said outline
unfolding closed_at
closed_are n said points outline e =
    let a = passed_then (said == length points) (CountDiffers said (length points)) (joined_at n points) outline e in
    let b = passed (nat_le 4 (length points) && ends_meet points) (OpenLoop n) (take (length points - 1) points) outline
    a.1 in
    let both = and_parts (nat_le 4 (length points)) (ends_meet points) b.0 in
    let four : 4 ≤ length points = grind (arith, nat_tests) in
    let said_is : said ≡ length points = eqb-true said (length points) a.0 in
    let len : length (take (length points - 1) points) ≡ length points - 1 = length-take (length points - 1) points ∙
    omega arith in
    subst (IsClosed points said) b.1 (sym (closed_again points (omega arith) both.1), omega arith, omega arith)
  where
    passed_then : {A : Type 0} (b : Bool) (d : CliFault) (r : Result A CliFault) (y : A) → cond b r (Err d) ≡ Ok y
        → (b ≡ true) × (r ≡ Ok y)
    passed_then true d r y e = (refl, e)
    passed_then false d r y e = absurd cc

closed_back : (n : ℕ) (outline : List Pt) → 3 ≤ length outline → closed_at n (length outline + 1) (closed outline)
    ≡ Ok outline
unfolding closed_at
closed_back n [] h = absurd (omega arith)
closed_back n (p ∷ ps) h =
    let all : List Pt = p ∷ ps in
    let len : length (all ++ p ∷ []) ≡ length all + 1 = length-append all (p ∷ []) in
    let counted : length all + 1 == length (all ++ p ∷ []) ≡ true = grind (arith, nat_tests) in
    let four : nat_le 4 (length (all ++ p ∷ [])) ≡ true = grind (arith, nat_tests) in
    let index : length (all ++ p ∷ []) - 1 ≡ length all = omega arith in
    let last : get_or (all ++ p ∷ []) (length (all ++ p ∷ []) - 1) origin ≡ p =
    ap (λ (k : ℕ). get_or (all ++ p ∷ []) k origin) index ∙ get_or-append_seam all p [] origin in
    let front : take (length (all ++ p ∷ []) - 1) (all ++ p ∷ []) ≡ all = take_at all (p ∷ [])
    (length (all ++ p ∷ []) - 1) (omega arith) in
    rw (counted, four, last, same_point_itself p, front) refl

-- ---- lines of outlines

abbrev OutlineWords : List (List ℕ) → List Pt → Type 0
OutlineWords ws points =
    (direction : ℕ) × (direction ≤ 1) × (ws ≡ decimal direction ∷ decimal (length points + 1) ∷ coordinate_words
    (closed points)) × IsShape points

first_near : (points : List Pt) → AllByRecursion (IsWithin coordinate_limit) (closed points)
    → AllByRecursion (IsWithin coordinate_limit) points
first_near [] near = tt
first_near (p ∷ ps) near = (near.0, front ps near.1)
  where
    front : (qs : List Pt) → AllByRecursion (IsWithin coordinate_limit) (qs ++ p ∷ [])
        → AllByRecursion (IsWithin coordinate_limit) qs
    front [] near = tt
    front (q ∷ qs) near = (near.0, front qs near.1)

pub closed_near : (points : List Pt) → AllByRecursion (IsWithin coordinate_limit) points
    → AllByRecursion (IsWithin coordinate_limit) (closed points)
closed_near [] near = tt
closed_near (p ∷ ps) near = AllByRecursion-append (IsWithin coordinate_limit) (p ∷ ps) (p ∷ []) near (near.0, tt)

direction_is : (n : ℕ) (word : List ℕ) (direction : ℕ) → direction_at n word ≡ Ok direction
    → (word ≡ decimal direction) × (direction ≤ 1)
direction_is n word direction e =
    let d = bind_ok (or_bad n (count_of word)) (λ k. cond (nat_le k 1) (Ok k) (Err (BadLine n))) direction e in
    told d.0 (passed (nat_le d.0 1) (BadLine n) d.0 direction d.2)
    (count_text word d.0 (or_bad_ok n (count_of word) d.0 d.1)).0
  where
    told : (k : ℕ) → (nat_le k 1 ≡ true) × (k ≡ direction) → word ≡ decimal k
        → (word ≡ decimal direction) × (direction ≤ 1)
    told k p is =
        let low = p.0 in
        let one : k ≤ 1 = grind (arith, nat_tests) in
        (is ∙ ap decimal p.1, omega (arith, one, p.1))

-- by what each of the words says
words_are : (direction said : List ℕ) (rest : List (List ℕ)) (outline : List Pt) (first count : ℕ) (points : List Pt)
    → (direction ≡ decimal first) × (first ≤ 1) → (said ≡ decimal count) × (count < 2 ^ 32)
    → (rest ≡ coordinate_words points) × AllByRecursion (IsWithin coordinate_limit) points
    → IsClosed points count outline
    → OutlineWords (direction ∷ said ∷ rest) outline
words_are direction said rest outline first count points d s p whole = (
  first,
  d.1,
  (λ i. d.0 i ∷ (s.0 ∙ ap decimal whole.1) i ∷ (p.0 ∙ ap coordinate_words whole.0) i),
  record {
    several = whole.2;
    count = omega (arith, s.1, whole.1);
    near = first_near outline (subst (AllByRecursion (IsWithin coordinate_limit)) whole.0 p.1);
  },
)

outline_are : (n : ℕ) (ws : List (List ℕ)) (outline : List Pt) → outline_at n ws ≡ Ok outline → OutlineWords ws outline
unfolding outline_at
outline_are n [] outline e = absurd cc
outline_are n (direction ∷ []) outline e = absurd cc
outline_are n (direction ∷ said ∷ rest) outline e =
    bound (direction_at n direction) (λ _. or_bad n (count_of said) >>= λ count. points_at n rest >>=
    λ points. closed_at n count points) outline e (λ first d f.
    bound (or_bad n (count_of said)) (λ count. points_at n rest >>= λ points. closed_at n count points) outline f
    (λ count s g. bound (points_at n rest) (λ points. closed_at n count points) outline g
    (λ points p h. words_are direction said rest outline first count points (direction_is n direction first d)
    (count_text said count (or_bad_ok n (count_of said) count s)) (points_are n rest points p)
    (closed_are n count points outline h))))

outline_back : (n direction : ℕ) (outline : List Pt) → direction ≤ 1 → IsShape outline →
    outline_at n (decimal direction ∷ decimal (length outline + 1) ∷ coordinate_words (closed outline)) ≡ Ok outline
unfolding outline_at
outline_back n direction outline either shape =
    let one : nat_le direction 1 ≡ true = grind (arith, nat_tests) in
    rw (
      count_back direction (omega arith),
      one,
      count_back (length outline + 1) shape.count,
      points_back n
          (closed outline) (closed_near outline shape.near),
    )
    (closed_back n outline shape.several)

pub outline_grouped : (a b c d : List ℕ) → a ++ b ++ codes "," ++ c ++ d ≡ a ++ (b ++ codes "," ++ c ++ d)
outline_grouped a b c d = simp append_assoc

-- what stands behind the start of the line
pub outline_text_is : (n : ℕ) (text : List ℕ) (outline : List Pt) → outline_at n (words text) ≡ Ok outline
    → IsOutline (polyline_start ++ text) outline
outline_text_is n text outline e =
    let w = outline_are n (words text) outline e in
    let near = closed_near outline w.3.near in
    let is : text ≡ decimal w.0 ++ codes "," ++ decimal (length outline + 1) ++ points_text (closed outline) =
    same_words text (decimal w.0 ++ codes "," ++ decimal (length outline + 1) ++ points_text (closed outline))
    (w.2 ∙ sym (words_of_outline w.0 (length outline + 1) (closed outline) (omega (arith, w.1)) w.3.count near)) in
    record {
      direction = w.0;
      either = w.1;
      is = ap (λ (t : List ℕ). polyline_start ++ t) is ∙ sym (outline_grouped polyline_start (decimal w.0)
          (decimal (length outline + 1)) (points_text (closed outline)));
      shape = w.3;
    }

pub outline_text_back : (n : ℕ) (direction : ℕ) (outline : List Pt) → direction ≤ 1 → IsShape outline →
    outline_at n (words (decimal direction ++ codes "," ++ decimal (length outline + 1) ++ points_text
    (closed outline))) ≡ Ok outline
outline_text_back n direction outline either shape =
    ap (outline_at n) (words_of_outline direction (length outline + 1) (closed outline) (omega arith) shape.count
    (closed_near outline shape.near))
    ∙ outline_back n direction outline either shape
