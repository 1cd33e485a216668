-- What names mean in frames that were opened.
use Rattle.std.proofs.Common.{◌≡◌, ◌≢◌, ℕ, ◌-◌, ◌<◌, Bool, true, false, Option, List, [], ◌∷◌, ◌++◌, length, get_or, set, Some, None, if◌then◌else◌, refl, sym, ap, ap₂, ◌∙◌, arith}
use Rattle.std.proofs.lemmas.List.{length-append, take_at, get_or_append_left}
use Rattle.std.proofs.Math.Seq.{get_or-append_seam}
use Rattle.scad_value.specs.Datum.{Datum}
use Rattle.scad_scope.specs.Names.{with_name}
use Rattle.scad_scope.specs.Env.{outside}
use Rattle.scad_scope.specs.Names.{Names}
use Rattle.scad_scope.specs.Env.{inside, frame}
use Rattle.scad_scope.specs.FrameStore.{Stored, StoredChildren, pushed, stored_at, with_name_in, with_name_in_last, env_at, env_round, env_of, envs, children_in}
use Rattle.scad_scope.proofs.Outwards.{envs-push, length-envs}
use Rattle.scad_machine.specs.Machine.{Held, env_in, along_in}
use Rattle.scad_machine.specs.Arguments.{set_all}
use Rattle.scad_machine.specs.OpenFrames.{last_of, opened, set_in_last, set_all_in_last, left, last_frame, bound_in, or_zero, outer, IsInner}
use Rattle.scad_machine.specs.Variables.{is_dollar, Bound, empty, within}
use Rattle.scad_machine.specs.Variables.{set as set_name}

-- ---- the last frame
pub last-none : (all : List Stored) → length all ≡ 0 → last_of all ≡ None
last-none [] none = refl
last-none (f ∷ more) none = absurd (let no : ⊥ = omega (arith, none) in no)

pub last-some : (all : List Stored) (n : ℕ) → n ≡ length all → n ≢ 0 → last_of all ≡ Some (n - 1)
last-some [] n is some = absurd (some is)
last-some (f ∷ more) n is some = ap Some (omega (arith, is))

pub ruleset lasts = (last-none, last-some)

-- the environment of a frame that was pushed last
pub env_at-last : (all : List Stored) (f : Stored)
    → env_at (envs (all ++ f ∷ [])) (length all) ≡ env_of (envs all) f
env_at-last all f =
    ap (λ l. get_or l (length all) outside) (envs-push all f)
    ∙ ap (λ n. get_or (envs all ++ env_of (envs all) f ∷ []) n outside) (sym (length-envs all))
    ∙ get_or-append_seam (envs all) (env_of (envs all) f) [] outside

pub less-one : (all : List Stored) (f : Stored) → length (all ++ f ∷ []) - 1 ≡ length all
less-one all f = let many = length-append all (f ∷ []) in omega (arith, many)

-- names are sought in the new frame, and then where it stands
pub env_in-opened : (kept : Option StoredChildren) (home : ℕ) (b : Bound) (h : Held)
    → env_in (opened kept (length h.frames) home b h)
    ≡ inside (frame b.names None (children_in (envs h.frames) kept))
    (env_at (envs h.frames) home)
unfolding env_in opened
env_in-opened kept home b h = env_at-last h.frames (record {
  names = b.names;
  parent = Some home;
  scope = None;
  kept =
      kept;
})

-- or still in a frame that was there
pub env_in-before : (kept : Option StoredChildren) (home : ℕ) (b : Bound) (h : Held) → home < length h.frames
    → env_in (opened kept home home b h) ≡ env_at (envs h.frames) home
unfolding env_in opened
env_in-before kept home b h there =
    let f : Stored = record { names = b.names; parent = Some home; scope = None; kept = kept } in
    let many = length-envs h.frames in
    ap (λ l. get_or l home outside) (envs-push h.frames f)
    ∙ get_or_append_left (envs h.frames) (env_of (envs h.frames) f ∷ []) outside home (omega (arith, many))

pub round-last : (all : List Stored) → env_round (envs all) (last_of all) ≡ env_at (envs all) (length all - 1)
round-last [] = refl
round-last (f ∷ more) = ap (env_at (envs (f ∷ more))) (omega arith)

-- `$` names are sought in the new frame, and then along the calls before
pub along_in-opened : (kept : Option StoredChildren) (here home : ℕ) (b : Bound) (h : Held)
    → along_in (opened kept here home b h) ≡ within (along_in h) b.dollars
unfolding along_in opened
along_in-opened kept here home b h =
    let f : Stored = record { names = b.dollars; parent = last_of h.along; scope = None; kept = None } in
    ap (env_at (envs (h.along ++ f ∷ []))) (less-one h.along f)
    ∙ env_at-last h.along f
    ∙ ap (λ e. within e b.dollars) (round-last h.along)

-- ---- names that are set
pub set_at-end : (xs : List Stored) (x y : Stored) → set (xs ++ x ∷ []) (length xs) y ≡ xs ++ y ∷ []
set_at-end [] x y = refl
set_at-end (z ∷ xs) x y = ap (λ l. z ∷ l) (set_at-end xs x y)

pub last-named : (name : List ℕ) (d : Datum) (all : List Stored) (f : Stored)
    → with_name_in_last name d (all ++ f ∷ []) ≡ all ++ with_name_in name d f ∷ []
last-named name d all f =
    ap (λ n. set (all ++ f ∷ []) n (with_name_in name d (get_or (all ++ f ∷ []) n (pushed None None None))))
    (less-one all f)
    ∙ ap (λ g. set (all ++ f ∷ []) (length all) (with_name_in name d g))
    (get_or-append_seam all f [] (pushed None None None))
    ∙ set_at-end all f (with_name_in name d f)

-- a name that is set in the frames that were opened
pub set_in_last-opened : (name : List ℕ) (d : Datum) (kept : Option StoredChildren) (here home : ℕ) (b : Bound)
    (h : Held) → set_in_last name d (opened kept here home b h) ≡ opened kept here home (set_name name d b) h
unfolding set_name opened
set_in_last-opened name d kept here home b h = by (is_dollar name)
  where
    by : (c : Bool) → (if c then record (opened kept here home b h) {
      along = with_name_in_last name d
          (opened kept here home b h).along;
    } else record (opened kept here home b h) {
      frames = with_name_in_last name d
          (opened kept here home b h).frames;
    }) ≡ opened kept here home
        (if c then record b { dollars = with_name name d b.dollars } else record b { names = with_name name d b.names })
        h
    by true = ap (λ l. record (opened kept here home b h) { along = l })
        (last-named name d h.along (record { names = b.dollars; parent = last_of h.along; scope = None; kept = None }))
    by false = ap (λ l. record (opened kept here home b h) { frames = l })
        (last-named name d h.frames (record { names = b.names; parent = Some home; scope = None; kept = kept }))

pub set_all_in_last-opened : (all : Names) (kept : Option StoredChildren) (here home : ℕ) (b : Bound) (h : Held)
    → set_all_in_last all (opened kept here home b h) ≡ opened kept here home (set_all all b) h
unfolding set_all
set_all_in_last-opened [] kept here home b h = refl
set_all_in_last-opened (p ∷ more) kept here home b h =
    ap (set_all_in_last more) (set_in_last-opened p.0 p.1 kept here home b h)
    ∙ set_all_in_last-opened more kept here home (set_name p.0 p.1 b) h

-- once the frames are left, all is as it was
pub left-opened : (back : ℕ) (kept : Option StoredChildren) (here home : ℕ) (b : Bound) (h : Held)
    → back ≡ h.here → left back (opened kept here home b h) ≡ h
unfolding left opened
left-opened back kept here home b h is =
    let f : Stored = record { names = b.names; parent = Some home; scope = None; kept = kept } in
    let d : Stored = record { names = b.dollars; parent = last_of h.along; scope = None; kept = None } in
    ap (λ n. left n (opened kept here home b h)) is
    ∙ ap₂ (λ fs ds. record h { frames = fs; along = ds })
    (take_at h.frames (f ∷ []) _ (sym (less-one h.frames f)))
    (take_at h.along (d ∷ []) _ (sym (less-one h.along d)))

-- ---- what the frames that were opened tell
pub last-frame : (all : List Stored) (f : Stored) → last_frame (all ++ f ∷ []) ≡ f
last-frame all f =
    ap (stored_at (all ++ f ∷ [])) (less-one all f) ∙ get_or-append_seam all f [] (pushed None None None)

pub bound_in-opened : (kept : Option StoredChildren) (here home : ℕ) (b : Bound) (h : Held)
    → bound_in (opened kept here home b h) ≡ b
unfolding bound_in opened
bound_in-opened kept here home b h =
    let f : Stored = record { names = b.names; parent = Some home; scope = None; kept = kept } in
    let d : Stored = record { names = b.dollars; parent = last_of h.along; scope = None; kept = None } in
    ap₂ (λ x y. record { names = x.names; dollars = y.names }) (last-frame h.frames f) (last-frame h.along d)

pub outer-opened : (kept : Option StoredChildren) (here : ℕ) (b : Bound) (h : Held)
    → outer (opened kept here h.here b h) ≡ h
unfolding outer opened
outer-opened kept here b h =
    let f : Stored = record { names = b.names; parent = Some h.here; scope = None; kept = kept } in
    left-opened _ kept here h.here b h (ap (λ g. or_zero g.parent) (last-frame h.frames f))

-- names are sought elsewhere
pub gone-opened : (kept : Option StoredChildren) (there here home : ℕ) (b : Bound) (h : Held)
    → record (opened kept here home b h) { here = there } ≡ opened kept there home b h
unfolding opened
gone-opened kept there here home b h = refl

-- ---- frames of a `let` or a `for`
inner-made : (h : Held) (o : Held) (b : Bound) → h ≡ opened None (length o.frames) o.here b o
    → IsInner h × (bound_in h ≡ b) × (outer h ≡ o)
inner-made h o b e =
    let out : outer h ≡ o = ap outer e ∙ outer-opened None (length o.frames) b o in
    let names : bound_in h ≡ b = ap bound_in e ∙ bound_in-opened None (length o.frames) o.here b o in
    (record { is = e ∙ ap₂ (λ c p. opened None (length p.frames) p.here c p) (sym names) (sym out) }, names, out)

pub open-inner : (h o : Held) → h ≡ opened None (length o.frames) o.here empty o → IsInner h
open-inner h o e = (inner-made h o empty e).0

pub open-bound : (h o : Held) → h ≡ opened None (length o.frames) o.here empty o → bound_in h ≡ empty
open-bound h o e = (inner-made h o empty e).1

pub open-outer : (h o : Held) → h ≡ opened None (length o.frames) o.here empty o → outer h ≡ o
open-outer h o e = (inner-made h o empty e).2

set-made : (name : List ℕ) (d : Datum) (h n : Held) → IsInner h → n ≡ set_in_last name d h
    → n ≡ opened None (length (outer h).frames) (outer h).here (set_name name d (bound_in h)) (outer h)
set-made name d h n i e =
    e ∙ ap (set_in_last name d) i.is
    ∙ set_in_last-opened name d None (length (outer h).frames) (outer h).here (bound_in h) (outer h)

pub set-inner : (name : List ℕ) (d : Datum) (h n : Held) → IsInner h → n ≡ set_in_last name d h → IsInner n
set-inner name d h n i e = (inner-made n (outer h) _ (set-made name d h n i e)).0

pub set-bound : (name : List ℕ) (d : Datum) (h n : Held) → IsInner h → n ≡ set_in_last name d h
    → bound_in n ≡ set_name name d (bound_in h)
set-bound name d h n i e = (inner-made n (outer h) _ (set-made name d h n i e)).1

pub set-outer : (name : List ℕ) (d : Datum) (h n : Held) → IsInner h → n ≡ set_in_last name d h
    → outer n ≡ outer h
set-outer name d h n i e = (inner-made n (outer h) _ (set-made name d h n i e)).2

pub inner-env : (h : Held) → IsInner h → env_in h ≡ within (env_in (outer h)) (bound_in h).names
unfolding env_in
inner-env h i = ap env_in i.is ∙ env_in-opened None (outer h).here (bound_in h) (outer h)

pub inner-along : (h : Held) → IsInner h → along_in h ≡ within (along_in (outer h)) (bound_in h).dollars
inner-along h i = ap along_in i.is ∙ along_in-opened None (length (outer h).frames) (outer h).here (bound_in h)
    (outer h)

pub left-outer : (back : ℕ) (h o : Held) → outer h ≡ o → back ≡ o.here → left back h ≡ o
unfolding outer left
left-outer back h o e is = ap (λ n. left n h) (is ∙ ap (λ p. p.here) (sym e)) ∙ e

-- ---- frames of a call
-- where a call's defaults are evaluated
pub call-home : (kept : Option StoredChildren) (home : ℕ) (h o : Held) → h ≡ opened kept home home (bound_in h) o
    → home < length o.frames → env_in h ≡ env_at (envs o.frames) home
call-home kept home h o e there = ap env_in e ∙ env_in-before kept home (bound_in h) o there

pub call-along : (kept : Option StoredChildren) (here home : ℕ) (h o : Held)
    → h ≡ opened kept here home (bound_in h) o → along_in h ≡ within (along_in o) (bound_in h).dollars
call-along kept here home h o e = ap along_in e ∙ along_in-opened kept here home (bound_in h) o

pub call-env : (kept : Option StoredChildren) (home : ℕ) (h o : Held) → h ≡ opened kept (length o.frames) home
    (bound_in h) o → env_in h ≡ inside (frame (bound_in h).names None (children_in (envs o.frames) kept))
    (env_at (envs o.frames) home)
call-env kept home h o e = ap env_in e ∙ env_in-opened kept home (bound_in h) o

pub call-left : (back : ℕ) (kept : Option StoredChildren) (here home : ℕ) (h o : Held)
    → h ≡ opened kept here home (bound_in h) o → back ≡ o.here → left back h ≡ o
call-left back kept here home h o e is = ap (left back) e ∙ left-opened back kept here home (bound_in h) o is

-- the names that are set in frames that were opened
pub opened-bound : (kept : Option StoredChildren) (here home : ℕ) (b : Bound) (h o : Held)
    → h ≡ opened kept here home b o → bound_in h ≡ b
opened-bound kept here home b h o e = ap bound_in e ∙ bound_in-opened kept here home b o

pub opened-again : (kept : Option StoredChildren) (here home : ℕ) (b : Bound) (h o : Held)
    → h ≡ opened kept here home b o → h ≡ opened kept here home (bound_in h) o
opened-again kept here home b h o e = e ∙ ap (λ c. opened kept here home c o)
    (sym (opened-bound kept here home b h o e))

-- names are sought from another frame
pub call-gone : (kept : Option StoredChildren) (here home inner : ℕ) (h n o : Held)
    → h ≡ opened kept here home (bound_in h) o → n ≡ record h { here = inner } → inner ≡ length o.frames
    → n ≡ opened kept (length o.frames) home (bound_in h) o
call-gone kept here home inner h n o e gone is =
    gone ∙ ap {B = Held} (λ (g : Held). record g { here = inner }) e
    ∙ gone-opened kept inner here home (bound_in h) o ∙
    ap (λ i. opened kept i home (bound_in h) o) is

-- the frames of a call once its defaults are set
pub call-done : (kept : Option StoredChildren) (home inner back : ℕ) (h n o : Held)
    → h ≡ opened kept home home (bound_in h) o → n ≡ record h { here = inner } → inner ≡ length o.frames
    → back ≡ o.here → (bound_in h ≡ bound_in n) × (n ≡ opened kept (length o.frames) home (bound_in n) o)
    × (env_in n ≡ inside (frame (bound_in n).names None (children_in (envs o.frames) kept))
    (env_at (envs o.frames) home))
    × (along_in n ≡ within (along_in o) (bound_in n).dollars) × (left back n ≡ o)
call-done kept home inner back h n o e gone is was =
    let made = call-gone kept home home inner h n o e gone is in
    let again = opened-again kept (length o.frames) home (bound_in h) n o made in (
      sym (opened-bound kept (length o.frames) home (bound_in h) n o made),
      again,
      call-env kept home n o again,
      call-along kept (length o.frames) home n o again,
      call-left back kept (length o.frames) home n o again was,
    )

-- frames of a `let` whose names were set anew
pub left-later : (back : ℕ) (h n o : Held) → left back h ≡ o → outer n ≡ outer h → outer h ≡ o
    → left back n ≡ o
unfolding left
left-later back h n o was same out = left-outer back n o (same ∙ out) (ap (λ p. p.here) was)

-- a name is set
pub call-set : (kept : Option StoredChildren) (here home : ℕ) (name : List ℕ) (d : Datum) (h n o : Held)
    → h ≡ opened kept here home (bound_in h) o → n ≡ set_in_last name d h
    → n ≡ opened kept here home (set_name name d (bound_in h)) o
call-set kept here home name d h n o e made =
    made ∙ ap (set_in_last name d) e ∙ set_in_last-opened name d kept here home (bound_in h) o

-- ---- frames of a call with the names that it is given
pub call-set_all : (kept : Option StoredChildren) (here home : ℕ) (all names : Names) (b : Bound) (o h n : Held)
    → all ≡ names → h ≡ opened kept here home b o → n ≡ set_all_in_last all h
    → n ≡ opened kept here home (set_all names b) o
call-set_all kept here home all names b o h n are e made =
    made ∙ ap (set_all_in_last all) e ∙ set_all_in_last-opened all kept here home b o
    ∙ ap (λ ns. opened kept here home (set_all ns b) o) are

-- defaults are sought where the definition stands
pub call-opened : (kept : Option StoredChildren) (home : ℕ) (all names : Names) (b : Bound) (o h n g : Held)
    → all ≡ names → h ≡ opened kept (length o.frames) home b o → n ≡ set_all_in_last all h
    → g ≡ record n { here = home } → g ≡ opened kept home home (set_all names b) o
call-opened kept home all names b o h n g are e made gone =
    gone
    ∙ ap {B = Held} (λ (x : Held). record x { here = home })
    (call-set_all kept (length o.frames) home all names b o h n are e made)
    ∙ gone-opened kept home (length o.frames) home (set_all names b) o

pub call-inner : (kept : Option StoredChildren) (home inner : ℕ) (all names : Names) (b : Bound) (o h n : Held)
    → all ≡ names → h ≡ opened kept (length o.frames) home b o → n ≡ set_all_in_last all h
    → inner ≡ n.here → inner ≡ length o.frames
unfolding opened
call-inner kept home inner all names b o h n are e made is =
    is ∙ ap (λ (x : Held). x.here) (call-set_all kept (length o.frames) home all names b o h n are e made)

pub ruleset inner = (inner-env, inner-along, left-outer, set-inner, set-bound, set-outer)

pub ruleset opening = (open-inner, open-bound, open-outer)

pub ruleset calling = (set_all_in_last-opened, gone-opened)
