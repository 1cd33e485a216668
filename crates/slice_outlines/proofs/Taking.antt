-- The marks above a height, one change after another.
use Rattle.std.proofs.Common.{◌≡◌, ℕ, zero, suc, ◌+◌, ◌-◌, ◌<◌, ◌≤◌, List, [], ◌∷◌, ◌++◌, map, length, get_or, take, drop, refl, sym, ap, ap₂, ◌∙◌, subst, arith, append_assoc}
use Rattle.std.proofs.lemmas.List.{length-append, length-map, length-take-le, length-drop, take-append-drop, take_at, drop_at, drop_more, drop_all, drop-drop, append-nil, map_push}
use Rattle.slice_sweep.specs.declared.change.Change.{Change}
use Rattle.slice_sweep.specs.Changes.{Group, all_below, all_above, staying, Tell}
use Rattle.slice_sweep.specs.Changes.Tell.{none, stays, changes}
use Rattle.slice_outlines.specs.declared.mark.Mark.{Mark}
use Rattle.slice_outlines.specs.Above.{new_mark, IsTold, AreTaken}
use Rattle.slice_outlines.specs.Above.AreTaken.{none as taken_none, stays as taken_stays, changes as taken_changes}
use Rattle.slice_outlines.proofs.Parts.{part_more, part_none}

-- ---- new strands
pub none_new : (bs : List (List ℕ)) (from : ℕ) (old : List Mark)
    → old ≡ old ++ map new_mark (take (from - from) (drop from bs))
none_new bs from old = sym (ap (λ (cs : List (List ℕ)). old ++ map new_mark cs) (part_none bs from) ∙ append-nil old)

pub one_new : (bs : List (List ℕ)) (from i : ℕ) (old now : List Mark) (m : Mark) → from ≤ i → i < length bs
    → now ≡ old ++ map new_mark (take (i - from) (drop from bs)) → m ≡ new_mark (get_or bs i [])
    → now ++ m ∷ [] ≡ old ++ map new_mark (take (i + 1 - from) (drop from bs))
one_new bs from i old now m o there e is =
    ap₂ (λ (xs : List Mark) (x : Mark). xs ++ x ∷ []) e is
    ∙ append_assoc old (map new_mark (take (i - from) (drop from bs))) (new_mark (get_or bs i []) ∷ [])
    ∙ ap (λ (xs : List Mark). old ++ xs) (sym (map_push new_mark (take (i - from) (drop from bs)) (get_or bs i [])))
    ∙ ap (λ (cs : List (List ℕ)). old ++ map new_mark cs) (sym (part_more bs from i [] o there))

-- ---- a change
-- what stands for a change past the last
abbrev pub no_change : Change
no_change = record { from = 0; gone = 0; come = 0 }

pub tell_from : (n : ℕ) (c : Change) (cs : List Change) (gs : List Group) → Tell n (c ∷ cs) gs → n ≤ c.from
tell_from n c cs gs (stays m ds b hs t) =
    let h : n + 1 ≤ c.from = tell_from (n + 1) c cs hs t in
    omega (arith, h)
tell_from n c cs gs (changes d ds g hs e f t) = omega arith

-- what stays on the way to the next change, and what comes there
record Step (n : ℕ) (c : Change) (cs : List Change) (right : List Group) (ms : List Mark) (k j : ℕ) : Type 0 where
  rest : List Group
  told : Tell (c.from + c.come) cs rest
  size : length (all_below rest) ≡ length (drop j ms)
  above : all_above rest ≡ drop c.come (drop k (all_above right))
  within : j ≤ length ms
  there : k + c.come ≤ length (all_above right)
  taken : (ns : List Mark) → AreTaken (c.from + c.come) cs rest (drop j ms) ns
      → AreTaken n (c ∷ cs) right ms (take k ms ++ (map new_mark (take c.come (drop k (all_above right))) ++ ns))

stay_step : (n : ℕ) (c : Change) (cs : List Change) (b : List ℕ) (gs : List Group)
    → ((ms : List Mark) (k j : ℕ) → n + 1 + k ≡ c.from → k + c.gone ≡ j → length (all_below gs) ≡ length ms
    → Step (n + 1) c cs gs ms k j) → n + 1 ≤ c.from → (ms : List Mark) (k j : ℕ) → n + k ≡ c.from → k + c.gone ≡ j
    → suc (length (all_below gs)) ≡ length ms → Step n c cs (staying b ∷ gs) ms k j
stay_step n c cs b gs step o [] k j e f s = absurd (omega (arith, s))
stay_step n c cs b gs step o (m ∷ ms) zero j e f s = absurd (omega (arith, o, e))
stay_step n c cs b gs step o (m ∷ ms) (suc k) zero e f s = absurd (omega (arith, f))
stay_step n c cs b gs step o (m ∷ ms) (suc k) (suc j) e f s =
    let next = step ms k j (omega (arith, e)) (omega (arith, f)) (omega (arith, s)) in
    let within = next.within in
    let there = next.there in
    record {
      rest = next.rest;
      told = next.told;
      size = next.size;
      above = next.above;
      within = omega (arith, within);
      there = omega (arith, there);
      taken = λ ns a. taken_stays n (c ∷ cs) b gs m ms
          (take k ms ++ (map new_mark (take c.come (drop k (all_above gs))) ++ ns)) (next.taken ns a);
    }

change_step : (c : Change) (cs : List Change) (g : Group) (gs : List Group) → length g.below ≡ c.gone
    → length g.above ≡ c.come → Tell (c.from + c.come) cs gs → (ms : List Mark) (k j : ℕ) → c.from + k ≡ c.from
    → k + c.gone ≡ j → length (g.below ++ all_below gs) ≡ length ms → Step c.from c cs (g ∷ gs) ms k j
change_step c cs g gs gone come t ms (suc k) j e f s = absurd (omega (arith, e))
change_step c cs g gs gone come t ms zero j e f s =
    let parts = length-append g.below (all_below gs) in
    let within : j ≤ length ms = omega (arith, f, s, gone, parts) in
    let front : take c.come (g.above ++ all_above gs) ≡ g.above = take_at g.above (all_above gs) c.come come in
    let first = length-take-le j ms within in
    record {
      rest = gs;
      told = t;
      size = omega (arith, f, s, gone, parts, length-drop j ms);
      above = sym (drop_at g.above (all_above gs) c.come come);
      within = within;
      there = omega (arith, come, length-append g.above (all_above gs));
      taken = λ ns a. subst (λ (xs : List Mark). AreTaken c.from (c ∷ cs) (g ∷ gs) xs
          (map new_mark (take c.come (g.above ++ all_above gs)) ++ ns)) (take-append-drop j ms)
          (subst (λ (bs : List (List ℕ)). AreTaken c.from (c ∷ cs) (g ∷ gs) (take j ms ++ drop j ms)
          (map new_mark bs ++ ns)) (sym front)
          (taken_changes c cs g gs (take j ms) (drop j ms) ns (omega (arith, first, f)) gone come a));
    }

step : (n : ℕ) (c : Change) (cs : List Change) (gs : List Group) → Tell n (c ∷ cs) gs → (ms : List Mark) (k j : ℕ)
    → n + k ≡ c.from → k + c.gone ≡ j → length (all_below gs) ≡ length ms → Step n c cs gs ms k j
step n c cs gs (stays m ds b hs t) ms k j e f s =
    stay_step n c cs b hs (step (n + 1) c cs hs t) (tell_from (n + 1) c cs hs t) ms k j e f s
step n c cs gs (changes d ds g hs gone come t) ms k j e f s = change_step c cs g hs gone come t ms k j e f s

-- behind the last change all strands stay
all_stay : (n : ℕ) (gs : List Group) → Tell n [] gs → (ms : List Mark) → length (all_below gs) ≡ length ms
    → AreTaken n [] gs ms ms
all_stay n gs (none m) [] s = taken_none n
all_stay n gs (none m) (x ∷ ms) s = absurd (omega (arith, s))
all_stay n gs (stays m ds b hs t) [] s = absurd (omega (arith, s))
all_stay n gs (stays m ds b hs t) (x ∷ ms) s = taken_stays n [] b hs x ms ms (all_stay (n + 1) hs t ms (omega
    (arith, s)))

-- ---- change after change
-- these marks stand above what is passed; what else is taken comes behind them
pub record AreTakenTo (all : List Change) (gs : List Group) (below : List Mark) (bs : List (List ℕ))
    (cs : List Change) (passed : ℕ)
    (above : List Mark) : Type 0 where
  pub right : List Group
  pub told : Tell (length above) cs right
  pub within : passed ≤ length below
  pub upper : length above ≤ length bs
  pub size : length (all_below right) ≡ length (drop passed below)
  pub rest : all_above right ≡ drop (length above) bs
  pub taken : (ns : List Mark) → AreTaken (length above) cs right (drop passed below) ns
      → AreTaken 0 all gs below (above ++ ns)

pub none_taken : (below : List Mark) (bs : List (List ℕ)) (cs : List Change) (above : List Mark) → above ≡ []
    → (t : IsTold below bs cs) → AreTakenTo cs t.groups below bs cs 0 above
none_taken below bs cs above e t = subst (AreTakenTo cs t.groups below bs cs 0) (sym e) (record {
  right = t.groups;
  told = t.told;
  within = omega arith;
  upper = omega arith;
  size = t.lower;
  rest = t.upper;
  taken = λ ns a. a;
})

pub here : (all : List Change) (gs : List Group) (below : List Mark) (bs : List (List ℕ)) (cs : List Change)
    (i passed : ℕ)
    (above : List Mark) → i < length cs → AreTakenTo all gs below bs (drop i cs) passed above
    → AreTakenTo all gs below bs (get_or cs i no_change ∷ drop (i + 1) cs) passed above
here all gs below bs cs i passed above o t =
    subst (λ (ds : List Change). AreTakenTo all gs below bs ds passed above) (drop_more cs i no_change o) t

module _ (all : List Change) (gs : List Group) (below : List Mark) (bs : List (List ℕ)) (c : Change)
    (cs : List Change) (passed : ℕ)
    (above : List Mark) (t : AreTakenTo all gs below bs (c ∷ cs) passed above) where
  from : length above ≤ c.from
  from = tell_from (length above) c cs t.right t.told

  abbrev k : ℕ
  k = c.from - length above

  abbrev ms : List Mark
  ms = drop passed below

  next : Step (length above) c cs t.right ms k (k + c.gone)
  next =
      let o = from in
      step (length above) c cs t.right t.told ms k (k + c.gone) (omega (arith, o)) refl t.size

  pub can_take : (length above ≤ c.from) × (passed + (c.from - length above) + c.gone ≤ length below)
      × (c.from + c.come ≤ length bs)
  can_take =
      let o = from in
      let n = next in
      let within = n.within in
      let there = n.there in
      let passed_within = t.within in
      let upper = t.upper in (
        o,
        omega (arith, within, passed_within, length-drop passed below),
        omega (arith, there, o, ap length t.rest, length-drop (length above) bs, upper),
      )

  -- as the code pushes them
  pub one_taken : (n : ℕ) (new : List Mark) → n ≡ passed + (c.from - length above) + c.gone
      → new ≡ (above ++ take (c.from - length above) (drop passed below)) ++ map new_mark (take c.come (drop c.from bs))
      → AreTakenTo all gs below bs cs n new
  one_taken n new ne we =
      let o = from in
      let q = next in
      let can = can_take in
      let bounds = can.1 in
      let bound = can.2 in
      let way : List Mark = take k ms in
      let come : List Mark = map new_mark (take c.come (drop c.from bs)) in
      let there : drop k (all_above t.right) ≡ drop c.from bs = ap (drop k) t.rest ∙ drop-drop k (length above) bs
      ∙ ap (λ (i : ℕ). drop i bs) (omega (arith, o)) in
      let behind : drop (k + c.gone) ms ≡ drop n below = drop-drop (k + c.gone) passed below
      ∙ ap (λ (i : ℕ). drop i below) (omega (arith, ne)) in
      let way_size : length way ≡ k = length-take-le k ms (omega (arith, bounds, length-drop passed below)) in
      let come_size : length come ≡ c.come = length-map (take c.come (drop c.from bs)) new_mark
      ∙ length-take-le c.come (drop c.from bs) (omega (arith, bound, length-drop c.from bs)) in
      let size : length new ≡ c.from + c.come = omega (
        arith,
        ap length we,
        length-append (above ++ way) come,
        length-append above way,
        way_size,
        come_size,
        o,
      ) in
      record {
        right = q.rest;
        told = subst (λ (i : ℕ). Tell i cs q.rest) (sym size) q.told;
        within = omega (arith, ne, bounds);
        upper = omega (arith, size, bound);
        size = q.size ∙ ap length behind;
        rest = q.above ∙ ap (drop c.come) there ∙ drop-drop c.come c.from bs ∙ ap (λ (i : ℕ). drop i bs) (sym size);
        taken = λ ns a.
            let a' = subst (λ (xs : List Mark). AreTaken (c.from + c.come) cs q.rest xs ns) (sym behind)
            (subst (λ (i : ℕ). AreTaken i cs q.rest (drop n below) ns) size a) in
            let whole = t.taken (way ++ (map new_mark (take c.come (drop k (all_above t.right))) ++ ns))
            (q.taken ns a') in
            let same : above ++ (way ++ (map new_mark (take c.come (drop k (all_above t.right))) ++ ns)) ≡ new ++ ns =
            ap (λ (cs : List (List ℕ)). above ++ (way ++ (map new_mark (take c.come cs) ++ ns))) there
            ∙ sym (append_assoc above way (come ++ ns)) ∙ sym (append_assoc (above ++ way) come ns)
            ∙ ap (λ (xs : List Mark). xs ++ ns) (sym we) in
            subst (AreTaken 0 all gs below) same whole;
      }

pub all_taken : (all : List Change) (gs : List Group) (below : List Mark) (bs : List (List ℕ)) (cs : List Change)
    (i passed : ℕ)
    (above new : List Mark) → length cs ≤ i → AreTakenTo all gs below bs (drop i cs) passed above
    → new ≡ above ++ drop passed below → AreTaken 0 all gs below new
all_taken all gs below bs cs i passed above new o here e =
    let t = subst (λ (ds : List Change). AreTakenTo all gs below bs ds passed above) (drop_all i cs o) here in
    subst (AreTaken 0 all gs below) (sym e) (t.taken (drop passed below)
    (all_stay (length above) t.right t.told (drop passed below) t.size))
