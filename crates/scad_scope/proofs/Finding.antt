-- Slots that are left, going outwards from frame to frame.
use Rattle.std.proofs.Common.{◌≡◌, ◌≢◌, ℕ, zero, suc, ◌+◌, ◌<◌, ◌≤◌, List, [], ◌∷◌, map, length, drop, get_or, Option, Some, None, refl, sym, ap, ap₂, ◌∙◌, arith}
use Rattle.std.proofs.lemmas.List.{drop_more, drop_all, get_or-map}
use Rattle.scad_scope.specs.declared.frame.Frame.{Frame}
use Rattle.scad_scope.specs.declared.slot.Slot.{Slot}
use Rattle.scad_scope.specs.Chain.{names_at, names_held, outwards}
use Rattle.scad_scope.specs.Env.{sought}
use Rattle.scad_scope.specs.Listing.{Listing, place_of}
use Rattle.scad_scope.specs.Slots.{slot_onto, slots_from}
use Rattle.scad_scope.specs.FrameStore.{Stored, env_at, envs, pushed, stored_at}
use Rattle.scad_scope.specs.View.{frame_listed, frame_stored}

-- ---- the slots of one frame
none-left : (s : Slot) (more : List Slot) → s ∷ more ≡ [] → ⊥
none-left s more is = let e : suc (length more) ≡ 0 = ap (λ (l : List Slot). length l) is in omega (arith, e)

-- slots are of frames no farther in
higher : (name : List ℕ) (up : ℕ) (ls : List Listing) (s : Slot) (more : List Slot) → s ∷ more ≡ slots_from name up ls
    → up ≤ s.up
higher name up [] s more is = absurd (none-left s more is)
higher name up (l ∷ ls) s more is = by (higher name (up + 1) ls s more) (place_of name l) is
  where
    by : (s ∷ more ≡ slots_from name (up + 1) ls → up + 1 ≤ s.up) → (p : Option ℕ)
        → s ∷ more ≡ slot_onto up p (slots_from name (up + 1) ls) → up ≤ s.up
    by rest None same = let some = rest same in omega (arith, some)
    by rest (Some p) same = let e : s.up ≡ up = ap (λ l. (get_or l 0 s).up) same in omega (arith, e)

module _ (name : List ℕ) (up : ℕ) (l : Listing) (ls : List Listing) (slots : List Slot) (i : ℕ) where
  -- no slot is left
  pub find-past : length slots ≤ i → drop i slots ≡ slots_from name up (l ∷ ls)
      → (place_of name l ≡ None) × (drop i slots ≡ slots_from name (up + 1) ls)
  find-past past is = by (place_of name l) refl (sym (drop_all i slots past) ∙ is)
    where
      by : (p : Option ℕ) → place_of name l ≡ p → [] ≡ slot_onto up p (slots_from name (up + 1) ls)
          → (place_of name l ≡ None) × (drop i slots ≡ slots_from name (up + 1) ls)
      by None here same = (here, drop_all i slots past ∙ same)
      by (Some p) here same = absurd (none-left _ _ (sym same))

  module _ (s : Slot) (below : i < length slots) (at : s ≡ get_or slots i s) where
    next : drop i slots ≡ s ∷ drop (i + 1) slots
    next = drop_more slots i s below ∙ ap (λ t. t ∷ drop (i + 1) slots) (sym at)

    -- the next slot is of a frame farther out
    pub find-other : s.up ≢ up → drop i slots ≡ slots_from name up (l ∷ ls)
        → (place_of name l ≡ None) × (drop i slots ≡ slots_from name (up + 1) ls)
    find-other other is = by (place_of name l) refl (sym next ∙ is)
      where
        by : (p : Option ℕ) → place_of name l ≡ p → s ∷ drop (i + 1) slots
            ≡ slot_onto up p (slots_from name (up + 1) ls)
            → (place_of name l ≡ None) × (drop i slots ≡ slots_from name (up + 1) ls)
        by None here same = (here, next ∙ same)
        by (Some p) here same = absurd (other (ap (λ k. (get_or k 0 s).up) same))

    -- the next slot is of this frame
    pub find-here : s.up ≡ up → drop i slots ≡ slots_from name up (l ∷ ls)
        → (place_of name l ≡ Some s.place) × (drop (i + 1) slots ≡ slots_from name (up + 1) ls)
    find-here same_up is = by (place_of name l) refl (sym next ∙ is)
      where
        by : (p : Option ℕ) → place_of name l ≡ p → s ∷ drop (i + 1) slots
            ≡ slot_onto up p (slots_from name (up + 1) ls)
            → (place_of name l ≡ Some s.place) × (drop (i + 1) slots ≡ slots_from name (up + 1) ls)
        by None here same =
            let some = higher name (up + 1) ls s (drop (i + 1) slots) same in
            let no : ⊥ = omega (arith, some, same_up) in
            absurd no
        by (Some p) here same = (here ∙ sym (ap (λ k. Some (get_or k 0 s).place) same), ap (drop 1) same)

-- within a list what stands past its end doesn't matter
pub any-default : {A : Type 0} (xs : List A) (i : ℕ) (d e : A) → i < length xs → get_or xs i d ≡ get_or xs i e
any-default [] i d e below = absurd (let no : ⊥ = omega (arith, below) in no)
any-default (x ∷ xs) zero d e below = refl
any-default (x ∷ xs) (suc i) d e below = any-default xs i d e (omega (arith, below))

-- ---- frame after frame
-- the names of a frame of a list
pub names-index : (fs : List Frame) (n : ℕ) (f : Frame) → n < length fs → f ≡ get_or fs n f
    → names_at (map frame_listed fs) (map frame_stored fs) n ≡ names_held (frame_listed f) (frame_stored f).names
names-index fs n f below is =
    ap₂ names_held (get_or-map frame_listed fs n f None below ∙ sym (ap frame_listed is))
    (ap (λ (x : Stored). x.names) (get_or-map frame_stored fs n f (pushed None None None) below
    ∙ sym (ap frame_stored is)))

-- what is left to do at a frame: as many frames at most are round it, these names they hold, these slots are left
pub record Left (name : List ℕ) (listed : List (Option Listing)) (all : List Stored) (slots : List Slot)
    (from at up next : ℕ) : Type 0 where
  pub count : ℕ
  pub listings : List Listing
  pub enough : at ≤ count
  pub hold : map (names_at listed all) (outwards (suc count) all (Some at)) ≡ map Some listings
  pub left : drop next slots ≡ slots_from name up listings
  pub same : sought name (env_at (envs all) at) ≡ sought name (env_at (envs all) from)

-- the same with the frame's own names apart
pub record Here (name : List ℕ) (listed : List (Option Listing)) (all : List Stored) (slots : List Slot)
    (at up next count : ℕ) : Type 0 where
  pub listing : Listing
  pub more : List Listing
  pub told : names_at listed all at ≡ Some listing
  pub hold : map (names_at listed all) (outwards count all (stored_at all at).parent) ≡ map Some more
  pub left : drop next slots ≡ slots_from name up (listing ∷ more)

module _ (name : List ℕ) (listed : List (Option Listing)) (all : List Stored) (slots : List Slot)
    (from at up next : ℕ) (x : Left name listed all slots from at up next) where
  pub here : Here name listed all slots at up next x.count
  here = by x.listings x.hold x.left
    where
      by : (ls : List Listing) → map (names_at listed all) (outwards (suc x.count) all (Some at)) ≡ map Some ls
          → drop next slots ≡ slots_from name up ls → Here name listed all slots at up next x.count
      by [] hold left =
          let e : suc (length (map (names_at listed all) (outwards x.count all (stored_at all at).parent))) ≡ 0
          = ap (λ (os : List (Option Listing)). length os) hold in
          let no : ⊥ = omega (arith, e) in
          absurd no
      by (l ∷ ls) hold left = record {
        listing = l;
        more = ls;
        told = ap (λ os. get_or os 0 None) hold;
        hold = ap (drop 1) hold;
        left = left;
      }

  pub outer : (p j : ℕ) → (stored_at all at).parent ≡ Some p → p < at
      → drop j slots ≡ slots_from name (up + 1) here.more
      → sought name (env_at (envs all) p) ≡ sought name (env_at (envs all) at)
      → Left name listed all slots from p (up + 1) j
  outer p j parent before left same = by x.count x.enough here.hold
    where
      by : (count : ℕ) → at ≤ count
          → map (names_at listed all) (outwards count all (stored_at all at).parent) ≡ map Some here.more
          → Left name listed all slots from p (up + 1) j
      by zero enough hold = absurd (let no : ⊥ = omega (arith, before, enough) in no)
      by (suc count) enough hold = record {
        count = count;
        listings = here.more;
        enough = omega (arith, before, enough);
        hold = sym (ap (λ o. map (names_at listed all) (outwards (suc count) all o)) parent) ∙ hold;
        left = left;
        same = same ∙ x.same;
      }
