-- Things that each have a height: the distinct ones of a list, from the lowest up.
use Rattle.std.proofs.Common.{◌⊎◌, inl, inr, List, [], ◌∷◌, refl, sym, arith}
use lib.IntN.{pos, ◌*ℤ◌}
use lib.Signed.{◌<ℤ◌, ◌≤ℤ◌}
use Rattle.std.specs.List.{AllByRecursion}
use Rattle.std.proofs.lemmas.Int.{ints, by_lt_z}
use Rattle.scad_geom.specs.declared.level.Level.{Level}
use Rattle.scad_geom.specs.Level.{IsLower, IsSameHeight}
use Rattle.scad_geom.proofs.Heights.{lower_then_at_most, lower_weak}

-- ---- any two heights compare
pub data AreCompared (p q : Level) : Type 0 where
  lower : IsLower p q → AreCompared p q
  same : IsSameHeight p q → AreCompared p q
  higher : IsLower q p → AreCompared p q

pub compared : (p q : Level) → AreCompared p q
compared p q = by_lt_z (p.n *ℤ q.d) (q.n *ℤ p.d) (λ l. lower l) not_lower
  where
    not_lower : (q.n *ℤ p.d) ≤ℤ (p.n *ℤ q.d) → AreCompared p q
    not_lower m = by_lt_z (q.n *ℤ p.d) (p.n *ℤ q.d) (λ l. higher l) (λ n. same (omega (arith, ints)))

-- ---- what holds of each element
pub weaker : {A : Type 0} (P Q : A → Type 0) → ((x : A) → P x → Q x) → (xs : List A)
    → AllByRecursion P xs → AllByRecursion Q xs
weaker P Q f [] h = tt
weaker P Q f (x ∷ xs) h = (f x h.0, weaker P Q f xs h.1)

-- each element stands to its list as one that is in it
pub each_is_in : {A : Type 0} (In : List A → A → Type 0) → ((x : A) (xs : List A) → In (x ∷ xs) x)
    → ((x y : A) (xs : List A) → In xs y → In (x ∷ xs) y) → (xs : List A) → AllByRecursion (In xs) xs
each_is_in In here there [] = tt
each_is_in In here there (x ∷ xs) =
    (here x xs, weaker (In xs) (In (x ∷ xs)) (λ y h. there x y xs h) xs (each_is_in In here there xs))

module _ {A : Type 0} (height : A → Level) where
  abbrev pub HasDivisor : A → Type 0
  HasDivisor x = pos 0 <ℤ (height x).d

  abbrev pub Below : A → A → Type 0
  Below x y = IsLower (height x) (height y)

  -- each lies below all later ones
  abbrev pub Climbs : List A → Type 0
  Climbs [] = Unit {0}
  Climbs (x ∷ xs) = AllByRecursion (Below x) xs × Climbs xs

  -- some element lies at the height of x
  abbrev pub Reaches : List A → A → Type 0
  Reaches [] x = ⊥
  Reaches (y ∷ ys) x = IsSameHeight (height y) (height x) ⊎ Reaches ys x

  pub lifted : (x y : A) (ys : List A) → HasDivisor x → HasDivisor y → AllByRecursion HasDivisor ys → Below x y
      → AllByRecursion (Below y) ys → AllByRecursion (Below x) ys
  lifted x y [] dx dy ds o h = tt
  lifted x y (z ∷ zs) dx dy ds o h = (
    lower_then_at_most (height x) (height y) (height z) dx dy ds.0 o (lower_weak (height y) (height z) h.0),
    lifted x y zs dx dy ds.1 o h.1,
  )

  -- ---- one more among distinct ones
  record HasInserted (x : A) (ys : List A) : Type 1 where
    all : List A
    climbs : Climbs all
    kept : (P : A → Type 0) → P x → AllByRecursion P ys → AllByRecursion P all
    has : Reaches all x
    more : (y : A) → Reaches ys y → Reaches all y

  inserted : (x : A) (ys : List A) → HasDivisor x → AllByRecursion HasDivisor ys → Climbs ys → HasInserted x ys
  inserted x [] dx ds c = record {
    all = x ∷ [];
    climbs = (tt, tt);
    kept = λ P p h. (p, tt);
    has = inl refl;
    more = λ y h. absurd h;
  }
  inserted x (y ∷ ys) dx ds c = by_order (compared (height x) (height y)) (inserted x ys dx ds.1 c.1)
    where
      before : (r : HasInserted x ys) (z : A) → Reaches (y ∷ ys) z → Reaches (y ∷ r.all) z
      before r z (inl e) = inl e
      before r z (inr h) = inr (r.more z h)

      by_order : AreCompared (height x) (height y) → HasInserted x ys → HasInserted x (y ∷ ys)
      by_order (lower o) r = record {
        all = x ∷ (y ∷ ys);
        climbs = ((o, lifted x y ys dx ds.0 ds.1 o c.0), c);
        kept = λ P p h. (p, h);
        has = inl refl;
        more = λ z h. inr h;
      }
      by_order (same e) r = record {
        all = y ∷ ys;
        climbs = c;
        kept = λ P p h. h;
        has = inl (sym e);
        more = λ z h. h;
      }
      by_order (higher o) r = record {
        all = y ∷ r.all;
        climbs = (r.kept (Below y) o c.0, r.climbs);
        kept = λ P p h. (h.0, r.kept P p h.1);
        has = inr r.has;
        more = before r;
      }

  -- ---- the distinct ones of a list
  pub record HasDistinct (xs : List A) : Type 1 where
    pub all : List A
    pub climbs : Climbs all
    pub kept : (P : A → Type 0) → AllByRecursion P xs → AllByRecursion P all
    pub complete : AllByRecursion (Reaches all) xs

  pub distinct : (xs : List A) → AllByRecursion HasDivisor xs → HasDistinct xs
  distinct [] d = record { all = []; climbs = tt; kept = λ P h. tt; complete = tt }
  distinct (x ∷ xs) d =
      let r : HasDistinct xs = distinct xs d.1 in
      let i : HasInserted x r.all = inserted x r.all d.0 (r.kept HasDivisor d.1) r.climbs in
      record {
        all = i.all;
        climbs = i.climbs;
        kept = λ P h. i.kept P h.0 (r.kept P h.1);
        complete = (i.has, weaker (Reaches r.all) (Reaches i.all) i.more xs r.complete);
      }
