-- A place between groups below a height, and that above it.
use Rattle.std.proofs.Common.{◌≡◌, ℕ, zero, suc, ◌+◌, ◌-◌, ◌^◌, ◌<◌, ◌≤◌, List, [], ◌∷◌, ◌++◌, length, get_or, drop, refl, sym, ap, ◌∙◌, arith, subst, append_assoc, length-append}
use Rattle.std.proofs.lemmas.List.{drop_more, drop_all}
use Rattle.slice_sweep.specs.declared.change.Change.{Change}
use Rattle.slice_sweep.specs.Changes.{Group, all_below, all_above, staying, Tell}
use Rattle.slice_sweep.specs.Changes.Tell.{none, stays, changes}
use Rattle.slice_outlines.specs.declared.run.Run.{Run}
use Rattle.slice_outlines.specs.Runs.{first, after}
use Rattle.slice_outlines.specs.Cursor.{IsShifted, Fit}
use Rattle.slice_outlines.proofs.Taking.{tell_from}
use Rattle.slice_outlines.proofs.Counting.{Fits}

-- ---- lists of groups
below-append : (gs hs : List Group) → length (all_below (gs ++ hs)) ≡ length (all_below gs) + length (all_below hs)
below-append [] hs = omega arith
below-append (g ∷ gs) hs =
    let h : length (all_below (gs ++ hs)) ≡ length (all_below gs) + length (all_below hs) = below-append gs hs in
    omega (arith, h, length-append g.below (all_below (gs ++ hs)), length-append g.below (all_below gs))

above-append : (gs hs : List Group) → length (all_above (gs ++ hs)) ≡ length (all_above gs) + length (all_above hs)
above-append [] hs = omega arith
above-append (g ∷ gs) hs =
    let h : length (all_above (gs ++ hs)) ≡ length (all_above gs) + length (all_above hs) = above-append gs hs in
    omega (arith, h, length-append g.above (all_above (gs ++ hs)), length-append g.above (all_above gs))

-- ---- before a change
-- so many strands that stay
stay_on : (n : ℕ) (cs : List Change) (gs : List Group) → Tell n cs gs → (a : ℕ) → a ≤ length (all_below gs)
    → ((c : Change) (later : List Change) → cs ≡ c ∷ later → (n + a ≤ c.from) × (n + a < c.from + c.gone))
    → IsShifted gs a a
stay_on n cs gs (none m) a h k =
    record { left = []; right = []; groups = refl; lower = omega arith; upper = omega arith; next = tt }
stay_on n cs gs (stays m ds b hs t) zero h k =
    record {
      left = [];
      right = staying b ∷ hs;
      groups = refl;
      lower = refl;
      upper = refl;
      next = λ e. omega (arith, ap length e);
    }
stay_on n cs gs (stays m ds b hs t) (suc a) h k =
    let s : IsShifted hs a a = stay_on (n + 1) cs hs t a (omega arith)
    (λ c later e.
    let l : n + suc a ≤ c.from = (k c later e).0 in
    let o : n + suc a < c.from + c.gone = (k c later e).1 in
    (omega (arith, l), omega (arith, o))) in
    let lower : length (all_below s.left) ≡ a = s.lower in
    let upper : length (all_above s.left) ≡ a = s.upper in
    record {
      left = staying b ∷ s.left;
      right = s.right;
      groups = ap (λ (gs : List Group). staying b ∷ gs) s.groups;
      lower = omega (arith, lower);
      upper = omega (arith, upper);
      next = s.next;
    }
stay_on n cs gs (changes c ds g hs e f t) a h k =
    let l : c.from + a ≤ c.from = (k c ds refl).0 in
    let o : c.from + a < c.from + c.gone = (k c ds refl).1 in
    let z : 0 ≡ a = omega (arith, l) in
    record {
      left = [];
      right = g ∷ hs;
      groups = refl;
      lower = z;
      upper = z;
      next = λ none. omega (arith, o, e, ap length none);
    }

-- ---- past a change
record Steps (n : ℕ) (c : Change) (cs : List Change) (gs : List Group) : Type 0 where
  left : List Group
  right : List Group
  groups : gs ≡ left ++ right
  lower : length (all_below left) + n ≡ c.from + c.gone
  upper : length (all_above left) + n ≡ c.from + c.come
  told : Tell (c.from + c.come) cs right

step_past : (n : ℕ) (c : Change) (cs : List Change) (gs : List Group) → Tell n (c ∷ cs) gs → Steps n c cs gs
step_past n c cs gs (stays m ds b hs t) =
    let s : Steps (n + 1) c cs hs = step_past (n + 1) c cs hs t in
    let lower : length (all_below s.left) + (n + 1) ≡ c.from + c.gone = s.lower in
    let upper : length (all_above s.left) + (n + 1) ≡ c.from + c.come = s.upper in
    record {
      left = staying b ∷ s.left;
      right = s.right;
      groups = ap (λ (gs : List Group). staying b ∷ gs) s.groups;
      lower = omega (arith, lower);
      upper = omega (arith, upper);
      told = s.told;
    }
step_past n c cs gs (changes d ds g hs e f t) = record {
  left = g ∷ [];
  right = hs;
  groups = refl;
  lower = omega (arith, e, length-append g.below []);
  upper = omega (arith, f, length-append g.above []);
  told = t;
}

-- ---- a place between two groups isn't within one
not_within : (n : ℕ) (c : Change) (cs : List Change) (gs : List Group) → Tell n (c ∷ cs) gs
    → (a : ℕ) (left right : List Group) → gs ≡ left ++ right → length (all_below left) ≡ a
    → n + a < c.from + c.gone → n + a ≤ c.from
not_within n c cs gs (stays m ds b hs t) a [] right e l h =
    let k : n + 1 ≤ c.from = tell_from (n + 1) c cs hs t in
    omega (arith, k, l)
not_within n c cs gs (stays m ds b hs t) a (g ∷ left) right e l h =
    let same : staying b ≡ g = cc in
    let rest : hs ≡ left ++ right = cc in
    let one : 1 ≡ length g.below = ap (λ (g : Group). length g.below) same in
    let k : (n + 1) + length (all_below left) ≤ c.from =
    not_within (n + 1) c cs hs t (length (all_below left)) left right rest refl
    (omega (arith, h, l, one, length-append g.below (all_below left))) in
    omega (arith, k, l, one, length-append g.below (all_below left))
not_within n c cs gs (changes d ds g hs e' f t) a [] right e l h = omega (arith, l)
not_within n c cs gs (changes d ds g hs e' f t) a (k ∷ left) right e l h =
    let same : g ≡ k = cc in
    let size : length g.below ≡ length k.below = ap (λ (g : Group). length g.below) same in
    absurd (omega (arith, h, l, e', size, length-append k.below (all_below left)))

-- ---- what is left of a place behind some groups
fit_rest : (left right : List Group) (a n : ℕ) → n ≡ length (all_below left) + a → (l r : List Group)
    → left ++ right ≡ l ++ r → length (all_below l) ≡ n → Fit right a
fit_rest [] right a n e l r g q = (l, r, g, omega (arith, q, e))
fit_rest (h ∷ left) right a n e [] r g q =
    ([], right, refl, omega (arith, q, e, length-append h.below (all_below left)))
fit_rest (h ∷ left) right a n e (k ∷ l) r g q =
    let same : h ≡ k = cc in
    let rest : left ++ right ≡ l ++ r = cc in
    let size : length h.below ≡ length k.below = ap (λ (g : Group). length g.below) same in
    fit_rest left right a (length (all_below l))
    (omega (arith, q, e, size, length-append h.below (all_below left), length-append k.below (all_below l)))
    l r rest refl

-- ---- how far a place's groups are passed
pub record ArePassedBy (gs : List Group) (cs : List Change) (done : Run) (at : ℕ) : Type 0 where
  pub left : List Group
  pub right : List Group
  pub groups : gs ≡ left ++ right
  pub lower : length (all_below left) ≡ done.below_to
  pub upper : length (all_above left) ≡ done.above_to
  pub told : Tell done.above_to cs right
  pub fits : Fit right (at - done.below_to)
  pub by : done.below_to ≤ at

pub none_passed : (gs : List Group) (cs : List Change) (at : ℕ) → Tell 0 cs gs → Fit gs at
    → ArePassedBy gs cs first at
none_passed gs cs at t f =
    let all : at ≡ at - 0 = omega arith in
    record {
      left = [];
      right = gs;
      groups = refl;
      lower = refl;
      upper = refl;
      told = t;
      fits = subst (Fit gs) all f;
      by = omega arith;
    }

next_told : (n : ℕ) (cs : List Change) (i : ℕ) (c : Change) (gs : List Group) → i < length cs → c ≡ get_or cs i c
    → Tell n (drop i cs) gs → Tell n (c ∷ drop (i + 1) cs) gs
next_told n cs i c gs l e t = subst (λ (ds : List Change). Tell n ds gs)
    (drop_more cs i c l ∙ ap (λ (d : Change). d ∷ drop (i + 1) cs) (sym e)) t

pub one_passed : (gs : List Group) (cs : List Change) (i : ℕ) (c : Change) (done : Run) (at : ℕ) → i < length cs
    → c ≡ get_or cs i c → ArePassedBy gs (drop i cs) done at → (after done c).below_to ≤ at
    → ArePassedBy gs (drop (i + 1) cs) (after done c) at
one_passed gs cs i c done at l e p h =
    let t : Tell done.above_to (c ∷ drop (i + 1) cs) p.right = next_told done.above_to cs i c p.right l e p.told in
    let s : Steps done.above_to c (drop (i + 1) cs) p.right = step_past done.above_to c (drop (i + 1) cs) p.right t in
    let from : done.above_to ≤ c.from = tell_from done.above_to c (drop (i + 1) cs) p.right t in
    let lower : length (all_below s.left) + done.above_to ≡ c.from + c.gone = s.lower in
    let upper : length (all_above s.left) + done.above_to ≡ c.from + c.come = s.upper in
    record {
      left = p.left ++ s.left;
      right = s.right;
      groups = p.groups ∙ ap (λ (hs : List Group). p.left ++ hs) s.groups ∙ sym (append_assoc p.left s.left s.right);
      lower = omega (arith, lower, from, p.lower, below-append p.left s.left);
      upper = omega (arith, upper, from, p.upper, above-append p.left s.left);
      told = s.told;
      fits = fit_rest s.left s.right (at - (after done c).below_to) (at - done.below_to)
          (omega (arith, lower, from, h, p.by)) p.fits.0 p.fits.1 (sym s.groups ∙ p.fits.2) p.fits.3;
      by = h;
    }

-- where the next change isn't passed
pub shifted_by : (gs : List Group) (cs : List Change) (done : Run) (at : ℕ) → ArePassedBy gs cs done at
    → ((c : Change) (later : List Change) → cs ≡ c ∷ later → at < (after done c).below_to)
    → IsShifted gs at (done.above_to + (at - done.below_to))
shifted_by gs cs done at p next =
    let a : ℕ = at - done.below_to in
    let size : length (all_below p.right) ≡ length (all_below (p.fits.0 ++ p.fits.1)) =
    ap (λ (gs : List Group). length (all_below gs)) p.fits.2 in
    let s : IsShifted p.right a a = stay_on done.above_to cs p.right p.told a
    (omega (arith, size, p.fits.3, below-append p.fits.0 p.fits.1))
    (λ c later e.
    let t : Tell done.above_to (c ∷ later) p.right = subst (λ
    (ds : List Change). Tell done.above_to ds p.right) e p.told
    in
    let from : done.above_to ≤ c.from = tell_from done.above_to c later p.right t in
    let h : at < (after done c).below_to = next c later e in (
      not_within done.above_to c later p.right t a p.fits.0 p.fits.1 p.fits.2 p.fits.3 (omega (arith, h, from, p.by)),
      omega (arith, h, from, p.by),
    )) in
    record {
      left = p.left ++ s.left;
      right = s.right;
      groups = p.groups ∙ ap (λ (hs : List Group). p.left ++ hs) s.groups ∙ sym (append_assoc p.left s.left s.right);
      lower = omega (arith, p.lower, s.lower, p.by, below-append p.left s.left);
      upper = omega (arith, p.upper, s.upper, above-append p.left s.left);
      next = s.next;
    }

-- ---- sizes
pub none_next : (cs : List Change) (n : ℕ) → length cs ≤ n → (c : Change) (later : List Change)
    → drop n cs ≡ c ∷ later → ⊥
none_next cs n h c later e =
    let none : drop n cs ≡ [] = drop_all n cs h in
    cc

pub is_next : (cs : List Change) (i : ℕ) (c d : Change) (later : List Change) → i < length cs → c ≡ get_or cs i c
    → drop i cs ≡ d ∷ later → c ≡ d
is_next cs i c d later l e h =
    let here : drop i cs ≡ get_or cs i c ∷ drop (i + 1) cs = drop_more cs i c l in
    cc

pub change_fits : (gs : List Group) (cs : List Change) (i : ℕ) (c : Change) (done : Run) (at : ℕ) → i < length cs
    → c ≡ get_or cs i c → ArePassedBy gs (drop i cs) done at → length (all_below gs) < 2 ^ 32
    → length (all_above gs) < 2 ^ 32 → Fits c done
change_fits gs cs i c done at l e p fb fa =
    let t : Tell done.above_to (c ∷ drop (i + 1) cs) p.right = next_told done.above_to cs i c p.right l e p.told in
    let s : Steps done.above_to c (drop (i + 1) cs) p.right = step_past done.above_to c (drop (i + 1) cs) p.right t in
    let from : done.above_to ≤ c.from = tell_from done.above_to c (drop (i + 1) cs) p.right t in
    let lower : length (all_below s.left) + done.above_to ≡ c.from + c.gone = s.lower in
    let upper : length (all_above s.left) + done.above_to ≡ c.from + c.come = s.upper in
    let below : length (all_below gs) ≡ length (all_below (p.left ++ (s.left ++ s.right))) =
    ap (λ (gs : List Group). length (all_below gs)) (p.groups ∙ ap (λ (hs : List Group). p.left ++ hs) s.groups) in
    let above : length (all_above gs) ≡ length (all_above (p.left ++ (s.left ++ s.right))) =
    ap (λ (gs : List Group). length (all_above gs)) (p.groups ∙ ap (λ (hs : List Group). p.left ++ hs) s.groups) in
    record {
      later = from;
      sizes = omega (
        arith,
        lower,
        upper,
        from,
        below,
        above,
        fb,
        fa,
        p.lower,
        p.upper,
        below-append p.left (s.left ++ s.right),
        below-append s.left s.right,
        above-append p.left (s.left ++ s.right),
        above-append s.left s.right,
      );
    }

-- a place is no farther to the right than there are strands
pub fit_within : (gs : List Group) (at : ℕ) → Fit gs at → at ≤ length (all_below gs)
fit_within gs at f =
    let size : length (all_below gs) ≡ length (all_below (f.0 ++ f.1)) =
    ap (λ (gs : List Group). length (all_below gs)) f.2 in
    omega (arith, size, f.3, below-append f.0 f.1)

pub above_within : (gs : List Group) (cs : List Change) (done : Run) (at : ℕ) → ArePassedBy gs cs done at
    → done.above_to ≤ length (all_above gs)
above_within gs cs done at p =
    let size : length (all_above gs) ≡ length (all_above (p.left ++ p.right)) =
    ap (λ (gs : List Group). length (all_above gs)) p.groups in
    omega (arith, size, p.upper, above-append p.left p.right)
