-- Each tree has a shape that stands for it: one of operations on two members.
use Rattle.std.proofs.Common.{◌≡◌, ℕ, ◌+◌, Bool, not, ◌&&◌, ◌||◌, List, [], ◌∷◌, ◌++◌}
use Rattle.std.proofs.Common.{length, refl, sym, ap, ap₂, ◌∙◌, append_assoc, append-nil, length-append}
use Rattle.std.proofs.Math.Bool.{and-true, and_assoc}
use lib.Seq.{get_or-append_seam}
use Rattle.scad_geom.specs.declared.shape.Shape.{Shape, Empty, Leaf}
use Rattle.scad_geom.specs.Shape.{shape_holds}
use Rattle.scad_solid.specs.declared.triangle.Triangle.{Triangle}
use Rattle.scad_tree.specs.Solid.{Solid, Solids, nothing, surface, union, intersection, difference, none, member}
use Rattle.scad_tree.specs.Member.{holds, some_hold, all_hold}
use Rattle.scad_tree.specs.Order.{surfaces, all_surfaces}
use Rattle.scad_tree.specs.LeafNumbers.{surface_at}
use Rattle.slice_layer.specs.Outlines.{StandsFor}
use Rattle.outline_laws.proofs.Pairs.{either, both, without, either_holds, both_hold, first_holds}

-- ---- a tree whose first leaf has a number
abbrev mutual
  standing : ℕ → Solid → Shape
  standing n nothing = Empty
  standing n (surface ts) = Leaf n
  standing n (union ms) = some_standing n ms
  standing n (intersection none) = Empty
  standing n (intersection (member s rest)) = all_standing (standing n s) (n + length (surfaces s)) rest
  standing n (difference first rest) = without (standing n first) (some_standing (n + length (surfaces first)) rest)

  some_standing : ℕ → Solids → Shape
  some_standing n none = Empty
  some_standing n (member s rest) = either (standing n s) (some_standing (n + length (surfaces s)) rest)

  -- what a shape holds and all members do
  all_standing : Shape → ℕ → Solids → Shape
  all_standing first n none = first
  all_standing first n (member s rest) = all_standing (both first (standing n s)) (n + length (surfaces s)) rest

module _ (inside : List Triangle → Bool) (all : List (List Triangle)) where
  abbrev held : Shape → Bool
  held shape = shape_holds (λ n. inside (surface_at all n)) shape

  -- ---- surfaces that stand among all, the first at this place
  record StandAt (n : ℕ) (us : List (List Triangle)) : Type 0 where
    front : List (List Triangle)
    back : List (List Triangle)
    count : length front ≡ n
    are : all ≡ front ++ (us ++ back)

  first_part : (n : ℕ) (us vs : List (List Triangle)) → StandAt n (us ++ vs) → StandAt n us
  first_part n us vs h = record {
    front = h.front;
    back = vs ++ h.back;
    count = h.count;
    are = h.are ∙ ap (λ l. h.front ++ l) (append_assoc us vs h.back);
  }

  second_part : (n : ℕ) (us vs : List (List Triangle)) → StandAt n (us ++ vs) → StandAt (n + length us) vs
  second_part n us vs h = record {
    front = h.front ++ us;
    back = h.back;
    count = length-append h.front us ∙ ap (λ m. m + length us) h.count;
    are = h.are ∙ ap (λ l. h.front ++ l) (append_assoc us vs h.back) ∙ sym (append_assoc h.front us (vs ++ h.back));
  }

  one_there : (n : ℕ) (ts : List Triangle) → StandAt n (ts ∷ []) → surface_at all n ≡ ts
  one_there n ts h = ap₂ surface_at h.are (sym h.count) ∙ get_or-append_seam h.front ts h.back []

  -- ---- what the shape of the tree holds
  mutual
    stands : (s : Solid) (n : ℕ) → StandAt n (surfaces s) → held (standing n s) ≡ holds inside s
    stands nothing n h = refl
    stands (surface ts) n h = ap inside (one_there n ts h)
    stands (union ms) n h = some_stand ms n h
    stands (intersection none) n h = refl
    stands (intersection (member s rest)) n h =
        all_stand rest (standing n s) (n + length (surfaces s)) (second_part n (surfaces s) (all_surfaces rest) h)
        ∙ ap (λ (b : Bool). b && all_hold inside rest) (stands s n (first_part n (surfaces s) (all_surfaces rest) h))
    stands (difference first rest) n h =
        let m : ℕ = n + length (surfaces first) in
        first_holds (λ n. inside (surface_at all n)) (standing n first) (some_standing m rest)
        ∙ ap₂ (λ (a b : Bool). a && not b) (stands first n (first_part n (surfaces first) (all_surfaces rest) h))
        (some_stand rest m (second_part n (surfaces first) (all_surfaces rest) h))

    some_stand : (ms : Solids) (n : ℕ) → StandAt n (all_surfaces ms) → held (some_standing n ms) ≡ some_hold inside ms
    some_stand none n h = refl
    some_stand (member s rest) n h =
        let m : ℕ = n + length (surfaces s) in
        either_holds (λ n. inside (surface_at all n)) (standing n s) (some_standing m rest)
        ∙ ap₂ (λ (a b : Bool). a || b) (stands s n (first_part n (surfaces s) (all_surfaces rest) h))
        (some_stand rest m (second_part n (surfaces s) (all_surfaces rest) h))

    all_stand : (ms : Solids) (first : Shape) (n : ℕ) → StandAt n (all_surfaces ms)
        → held (all_standing first n ms) ≡ (held first && all_hold inside ms)
    all_stand none first n h = sym (and-true (held first))
    all_stand (member s rest) first n h =
        let m : ℕ = n + length (surfaces s) in
        let one : held (standing n s) ≡ holds inside s = stands s n (first_part n (surfaces s) (all_surfaces rest) h) in
        let two : held (both first (standing n s)) ≡ (held first && holds inside s) =
        both_hold (λ n. inside (surface_at all n)) first (standing n s) ∙ ap (λ (b : Bool). held first && b) one in
        all_stand rest (both first (standing n s)) m (second_part n (surfaces s) (all_surfaces rest) h)
        ∙ ap (λ (b : Bool). b && all_hold inside rest) two
        ∙ and_assoc (held first) (holds inside s) (all_hold inside rest)

pub record HasShape (s : Solid) : Type 0 where
  pub shape : Shape
  pub stands_for : StandsFor shape s

pub shape_of : (s : Solid) → HasShape s
shape_of s = record { shape = standing 0 s; stands_for = λ inside. stands inside (surfaces s) s 0 (whole inside) }
  where
    whole : (inside : List Triangle → Bool) → StandAt inside (surfaces s) 0 (surfaces s)
    whole inside = record { front = []; back = []; count = refl; are = sym (append-nil (surfaces s)) }
