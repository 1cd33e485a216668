-- Layers are read of their lines, and of no others.
use Rattle.std.proofs.Common.{◌≡◌, ℕ, ◌+◌, ◌^◌, ◌<◌, Bool, true, false, cond, List, [], ◌∷◌, ◌++◌, length, refl, ap, ap₂, sym, subst, ◌∙◌, append_assoc, Option, Some, None, Result, Ok, Err}
use Rattle.std.specs.Prelude.{IfSome, bytes_eq, codes}
use Rattle.std.specs.Fmt.{decimal}
use Rattle.std.specs.List.{flat_map, AllZip}
use Rattle.std.proofs.lemmas.Bool.{ltb-true, lt-ltb}
use Rattle.std.proofs.lemmas.List.Concat.{flat_map-cons}
use Rattle.std.proofs.lemmas.Slice.Eq.{bytes_eq-Decides}
use Rattle.scad_geom.specs.declared.point.Pt.{Pt}
use Rattle.scad_geom.specs.declared.point.Edge.{Edge}
use Rattle.cli_text.specs.Cli.{Layer, layer_start, polyline_start, hatches_start, hatch_text, closed}
use Rattle.cli_read.specs.declared.fault.CliFault.{CliFault}
use Rattle.cli_read.specs.declared.fault.CliFault.TheVariants.{BadLine}
use Rattle.cli_read.specs.declared.line.Said.{Said}
use Rattle.cli_read.specs.declared.line.Said.TheVariants.{Height, Outline, Hatches}
use Rattle.cli_read.specs.Form.{IsOutline, IsHatchesLine, Drawn, Polyline, Hatching, IsDrawn, outlines_among, hatches_among, SaysLayer, AreAbove, height_line, end_line}
use Rattle.cli_read.specs.Reading.{◌>>=◌, Geometry, nothing, or_bad, words, behind, count_of, outline_at, hatches_at, is_above, height_at, drawn_by, drawn_at, said_by, said_at, onto, last_height, ended_at, geometry_at}
use Rattle.cli_read.proofs.Results.{bind_ok, ok_is, passed, or_bad_ok}
use Rattle.cli_read.proofs.Numbers.{count_text, count_back, same_bytes}
use Rattle.cli_read.proofs.CommaWords.{points_text, behind_is, behind_back}
use Rattle.cli_read.proofs.Outlines.{outline_grouped, outline_text_is, outline_text_back}
use Rattle.cli_read.proofs.HatchLines.{hatches_text_is, hatches_text_back}

-- ---- one line

-- the line says this, behind a layer of the last height
abbrev Says : Option ℕ → List ℕ → Said → Type 0
Says last line (Height z) = (line ≡ height_line z) × (z < 2 ^ 32) × IfSome last (λ low. low < z)
Says last line (Outline points) = IsOutline line points × ((z : ℕ) × (last ≡ Some z))
Says last line (Hatches some) = IsHatchesLine line some × ((z : ℕ) × (last ≡ Some z))

above_is : (last : Option ℕ) (z : ℕ) → is_above last z ≡ true → IfSome last (λ low. low < z)
above_is None z e = tt
above_is (Some low) z e = ltb-true low z e

above_back : (last : Option ℕ) (z : ℕ) → IfSome last (λ low. low < z) → is_above last z ≡ true
above_back None z h = refl
above_back (Some low) z h = lt-ltb low z h

height_is : (n : ℕ) (last : Option ℕ) (text : List ℕ) (z : ℕ) → height_at n last text ≡ Ok z → (text ≡ decimal z)
    × (z < 2 ^ 32) × IfSome last (λ low. low < z)
unfolding height_at
height_is n last text z e =
    let a = bind_ok (or_bad n (count_of text)) (λ z. cond (is_above last z) (Ok z) (Err (BadLine n))) z e in
    let b = passed (is_above last a.0) (BadLine n) a.0 z a.2 in
    let is = count_text text a.0 (or_bad_ok n (count_of text) a.0 a.1) in
    subst (λ (y : ℕ). (text ≡ decimal y) × (y < 2 ^ 32) × IfSome last (λ low. low < y)) b.1
    (is.0, is.1, above_is last a.0 b.0)

height_back : (n : ℕ) (last : Option ℕ) (z : ℕ) → z < 2 ^ 32 → IfSome last (λ low. low < z)
    → height_at n last (decimal z) ≡ Ok z
unfolding height_at
height_back n last z h above = rw (count_back z h, above_back last z above) refl

drawn_by_is : (n z : ℕ) (line : List ℕ) (polyline hatching : Option (List ℕ)) (s : Said) →
    behind polyline_start line ≡ polyline → behind hatches_start line ≡ hatching → drawn_by n polyline hatching ≡ Ok s
    → Says (Some z) line s
drawn_by_is n z line (Some text) hatching s p h e =
    let a = bind_ok (outline_at n (words text)) (λ points. Ok (Outline points)) s e in
    let is = subst (λ (l : List ℕ). IsOutline l a.0) (sym (behind_is polyline_start line text p))
    (outline_text_is n text a.0 a.1) in
    subst (Says (Some z) line) (ok_is (Outline a.0) s a.2) (is, (z, refl))
drawn_by_is n z line None (Some text) s p h e =
    let a = bind_ok (hatches_at n (words text)) (λ some. Ok (Hatches some)) s e in
    let is = subst (λ (l : List ℕ). IsHatchesLine l a.0) (sym (behind_is hatches_start line text h))
    (hatches_text_is n text a.0 a.1) in
    subst (Says (Some z) line) (ok_is (Hatches a.0) s a.2) (is, (z, refl))
drawn_by_is n z line None None s p h e = absurd cc

drawn_is : (n z : ℕ) (line : List ℕ) (s : Said) → drawn_at n line ≡ Ok s → Says (Some z) line s
unfolding drawn_at
drawn_is n z line s e = drawn_by_is n z line (behind polyline_start line) (behind hatches_start line) s refl refl e

said_by_is : (n : ℕ) (last : Option ℕ) (line : List ℕ) (height : Option (List ℕ)) (s : Said) →
    behind layer_start line ≡ height → said_by n last height line ≡ Ok s → Says last line s
said_by_is n last line (Some text) s h e =
    let a = bind_ok (height_at n last text) (λ z. Ok (Height z)) s e in
    let is = height_is n last text a.0 a.1 in
    subst (Says last line) (ok_is (Height a.0) s a.2) (
      behind_is layer_start line text h ∙ ap (λ (t : List ℕ). layer_start ++ t) is.0,
      is.1,
      is.2,
    )
said_by_is n (Some z) line None s h e = drawn_is n z line s e
said_by_is n None line None s h e = absurd cc

said_is : (n : ℕ) (last : Option ℕ) (line : List ℕ) (s : Said) → said_at n last line ≡ Ok s → Says last line s
unfolding said_at
said_is n last line s e = said_by_is n last line (behind layer_start line) s refl e

-- no line begins in two ways
no_height : (rest : List ℕ) → behind layer_start (polyline_start ++ rest) ≡ None
unfolding behind layer_start polyline_start
no_height rest = refl

no_height_of_hatches : (rest : List ℕ) → behind layer_start (hatches_start ++ rest) ≡ None
unfolding behind layer_start hatches_start
no_height_of_hatches rest = refl

no_polyline : (rest : List ℕ) → behind polyline_start (hatches_start ++ rest) ≡ None
unfolding behind polyline_start hatches_start
no_polyline rest = refl

said_back : (n : ℕ) (last : Option ℕ) (line : List ℕ) (s : Said) → Says last line s → said_at n last line ≡ Ok s
unfolding said_at drawn_at
said_back n last line (Height z) h = rw (h.0, behind_back layer_start (decimal z), height_back n last z h.1 h.2) refl
said_back n last line (Outline points) h =
    let rest = decimal h.0.direction ++ codes "," ++ decimal (length points + 1) ++ points_text (closed points) in
    let is : line ≡ polyline_start ++ rest = h.0.is ∙ outline_grouped polyline_start (decimal h.0.direction)
    (decimal (length points + 1)) (points_text (closed points)) in
    rw (
      is,
      no_height rest,
      h.1.1,
      behind_back polyline_start rest,
      outline_text_back n h.0.direction points h.0.either h.0.shape,
    ) refl
said_back n last line (Hatches some) h =
    let rest = decimal (length some) ++ flat_map hatch_text some in
    let is : line ≡ hatches_start ++ rest = h.0.is ∙ append_assoc hatches_start (decimal (length some))
    (flat_map hatch_text some) in
    rw (
      is,
      no_height_of_hatches rest,
      h.1.1,
      no_polyline rest,
      behind_back hatches_start rest,
      hatches_text_back n some h.0.some h.0.kind,
    ) refl

no_end_height : (rest : List ℕ) → bytes_eq (layer_start ++ rest) end_line ≡ false
unfolding layer_start end_line
no_end_height rest = refl

no_end_outline : (rest : List ℕ) → bytes_eq (polyline_start ++ rest) end_line ≡ false
unfolding polyline_start end_line
no_end_outline rest = refl

no_end_hatches : (rest : List ℕ) → bytes_eq (hatches_start ++ rest) end_line ≡ false
unfolding hatches_start end_line
no_end_hatches rest = refl

no_end : (last : Option ℕ) (line : List ℕ) (s : Said) → Says last line s → bytes_eq line end_line ≡ false
no_end last line (Height z) h = rw h.0 (no_end_height (decimal z))
no_end last line (Outline points) h =
    let rest = decimal h.0.direction ++ codes "," ++ decimal (length points + 1) ++ points_text (closed points) in
    rw (h.0.is ∙ outline_grouped polyline_start (decimal h.0.direction) (decimal (length points + 1))
    (points_text (closed points))) (no_end_outline rest)
no_end last line (Hatches some) h =
    rw (h.0.is ∙ append_assoc hatches_start (decimal (length some)) (flat_map hatch_text some))
    (no_end_hatches (decimal (length some) ++ flat_map hatch_text some))

-- ---- all lines

abbrev pub joined : List (List (List ℕ)) → List (List ℕ)
joined parts = flat_map (λ ls. ls) parts

-- the lines are those of outlines and hatches, of layers above the last height, and the end
pub record Stands (last : Option ℕ) (ls : List (List ℕ)) (g : Geometry) : Type 0 where
  pub front : List (List ℕ)
  pub drawn : List Drawn
  pub parts : List (List (List ℕ))
  pub are : ls ≡ front ++ (joined parts ++ end_line ∷ [])
  pub says : AllZip IsDrawn front drawn
  pub outlines : outlines_among drawn ≡ g.outlines
  pub hatches : hatches_among drawn ≡ g.hatches
  pub each : AllZip SaysLayer parts g.layers
  pub above : AreAbove last g.layers
  pub none : last ≡ None → front ≡ []

part_grouped : (line : List ℕ) (os rest «end» : List (List ℕ)) → line ∷ (os ++ (rest ++ «end»)) ≡ ((line ∷ os) ++ rest)
    ++ «end»
part_grouped line os rest «end» = ap (λ (ls : List (List ℕ)). line ∷ ls) (sym (append_assoc os rest «end»))

no_some : (last : Option ℕ) (z : ℕ) → last ≡ Some z → last ≡ None → ⊥
no_some last z some none = cc

stands_more : (last : Option ℕ) (line : List ℕ) (rest : List (List ℕ)) (s : Said) (more : Geometry) →
    Says last line s → Stands (last_height s last) rest more → Stands last (line ∷ rest) (onto s more)
stands_more last line rest (Height z) more h below = record {
  front = [];
  drawn = [];
  parts = (line ∷ below.front) ∷ below.parts;
  are =
      ap (λ (ls : List (List ℕ)). line ∷ ls) below.are
      ∙ part_grouped line below.front (joined below.parts) (end_line ∷ [])
      ∙ ap (λ (ls : List (List ℕ)). ls ++ end_line ∷ [])
      (sym (flat_map-cons (λ (ls : List (List ℕ)). ls) (line ∷ below.front) below.parts));
  says = tt;
  outlines = refl;
  hatches = refl;
  each = (
    record {
      behind = below.front;
      drawn = below.drawn;
      are = ap (λ (l : List ℕ). l ∷ below.front) h.0;
      each = below.says;
      outlines = below.outlines;
      hatches = below.hatches;
      height = h.1;
    },
    below.each,
  );
  above = (h.2, below.above);
  none = λ e. refl;
}
stands_more last line rest (Outline points) more h below = record {
  front = line ∷ below.front;
  drawn = Polyline points ∷ below.drawn;
  parts = below.parts;
  are = ap (λ (ls : List (List ℕ)). line ∷ ls) below.are;
  says = (h.0, below.says);
  outlines = ap (λ (os : List (List Pt)). points ∷ os) below.outlines;
  hatches = below.hatches;
  each = below.each;
  above = below.above;
  none = λ e. absurd (no_some last h.1.0 h.1.1 e);
}
stands_more last line rest (Hatches some) more h below = record {
  front = line ∷ below.front;
  drawn = Hatching some ∷ below.drawn;
  parts = below.parts;
  are = ap (λ (ls : List (List ℕ)). line ∷ ls) below.are;
  says = (h.0, below.says);
  outlines = below.outlines;
  hatches = ap (λ (hs : List Edge). some ++ hs) below.hatches;
  each = below.each;
  above = below.above;
  none = λ e. absurd (no_some last h.1.0 h.1.1 e);
}

pub geometry_stands : (n : ℕ) (last : Option ℕ) (ls : List (List ℕ)) (g : Geometry) → geometry_at n last ls ≡ Ok g
    → Stands last ls g
unfolding geometry_at
geometry_stands n last [] g e = absurd cc
geometry_stands n last (line ∷ rest) g e = by_end (bytes_eq line end_line) refl (λ m last more e. geometry_stands m last
    rest more e) e
  where
    ended : (ls : List (List ℕ)) → line ≡ end_line → ended_at (n + 1) ls ≡ Ok g → Stands last (line ∷ ls) g
    ended [] is e = subst (Stands last (line ∷ [])) (ok_is nothing g e) (record {
      front = [];
      drawn = [];
      parts = [];
      are = ap (λ (l : List ℕ). l ∷ []) is;
      says = tt;
      outlines = refl;
      hatches = refl;
      each = tt;
      above = tt;
      none = λ e. refl;
    })
    ended (next ∷ more) is e = absurd cc

    by_end : (b : Bool) → bytes_eq line end_line ≡ b → ((m : ℕ) (last : Option ℕ) (more : Geometry)
        → geometry_at m last rest ≡ Ok more → Stands last rest more) →
        cond b (ended_at (n + 1) rest) (said_at (n + 1) last line >>= λ said. geometry_at (n + 1)
        (last_height said last) rest >>= λ more. Ok (onto said more)) ≡ Ok g →
        Stands last (line ∷ rest) g
    by_end true is below e = ended rest ((bytes_eq-Decides line end_line).0 is) e
    by_end false is below e =
        let a = bind_ok (said_at (n + 1) last line) (λ said. geometry_at (n + 1) (last_height said last) rest >>=
        λ more. Ok (onto said more)) g e in
        let b = bind_ok (geometry_at (n + 1) (last_height a.0 last) rest) (λ more. Ok (onto a.0 more)) g a.2 in
        subst (Stands last (line ∷ rest)) (ok_is (onto a.0 b.0) g b.2)
        (stands_more last line rest a.0 b.0 (said_is (n + 1) last line a.0 a.1) (below (n + 1) (last_height a.0 last)
        b.0 b.1))

line_back : (n : ℕ) (last : Option ℕ) (line : List ℕ) (rest : List (List ℕ)) (s : Said) (more : Geometry) →
    Says last line s → geometry_at (n + 1) (last_height s last) rest ≡ Ok more → geometry_at n last (line ∷ rest)
    ≡ Ok (onto s more)
unfolding geometry_at
line_back n last line rest s more h e = rw (no_end last line s h, said_back (n + 1) last line s h, e) refl

-- the layers are read of these lines, whatever number they begin with
abbrev Gives : Option ℕ → List (List ℕ) → Geometry → Type 0
Gives last ls g = (n : ℕ) → geometry_at n last ls ≡ Ok g

abbrev only : List (List Pt) → List Edge → List Layer → Geometry
only outlines hatches layers = record { outlines = outlines; hatches = hatches; layers = layers }

drawn_back : (z : ℕ) (lines : List (List ℕ)) (drawn : List Drawn) (rest : List (List ℕ)) (layers : List Layer) →
    AllZip IsDrawn lines drawn → Gives (Some z) rest (only [] [] layers) → Gives (Some z) (lines ++ rest)
    (only (outlines_among drawn) (hatches_among drawn) layers)
drawn_back z [] [] rest layers h below n = below n
drawn_back z [] (d ∷ ds) rest layers h below n = absurd h
drawn_back z (l ∷ ls) [] rest layers h below n = absurd h
drawn_back z (l ∷ ls) (Polyline points ∷ ds) rest layers h below n =
    line_back n (Some z) l (ls ++ rest) (Outline points) (only (outlines_among ds) (hatches_among ds) layers)
    (h.0, (z, refl)) (drawn_back z ls ds rest layers h.1 below (n + 1))
drawn_back z (l ∷ ls) (Hatching some ∷ ds) rest layers h below n =
    line_back n (Some z) l (ls ++ rest) (Hatches some) (only (outlines_among ds) (hatches_among ds) layers)
    (h.0, (z, refl)) (drawn_back z ls ds rest layers h.1 below (n + 1))

end_back : (last : Option ℕ) (n : ℕ) → geometry_at n last (end_line ∷ []) ≡ Ok nothing
unfolding geometry_at
end_back last n = rw (same_bytes end_line) refl

abbrev as_read : Geometry → Result Geometry CliFault
as_read g = Ok g

pub parts_back : (last : Option ℕ) (parts : List (List (List ℕ))) (layers : List Layer) →
    AllZip SaysLayer parts layers → AreAbove last layers → Gives last (joined parts ++ end_line ∷ [])
    (only [] [] layers)
parts_back last [] [] h above n = end_back last n
parts_back last [] (l ∷ ls) h above n = absurd h
parts_back last (p ∷ ps) [] h above n = absurd h
parts_back last (part ∷ parts) (layer ∷ layers) h above n =
    let below = parts_back (Some layer.z) parts layers h.1 above.1 in
    let rest = joined parts ++ end_line ∷ [] in
    let lines : joined (part ∷ parts) ++ end_line ∷ [] ≡ height_line layer.z ∷ (h.0.behind ++ rest) =
    ap (λ (ls : List (List ℕ)). ls ++ end_line ∷ []) (flat_map-cons (λ (ls : List (List ℕ)). ls) part parts ∙ ap
    (λ (ls : List (List ℕ)). ls ++ joined parts) h.0.are)
    ∙ sym (part_grouped (height_line layer.z) h.0.behind (joined parts) (end_line ∷ [])) in
    let front : geometry_at (n + 1) (Some layer.z) (h.0.behind ++ rest) ≡ Ok (only layer.loops layer.hatches layers) =
    drawn_back layer.z h.0.behind h.0.drawn rest layers h.0.each below (n + 1)
    ∙ ap₂ (λ (os : List (List Pt)) (hs : List Edge). as_read (only os hs layers)) h.0.outlines h.0.hatches in
    ap (geometry_at n last) lines
    ∙ line_back n last (height_line layer.z) (h.0.behind ++ rest) (Height layer.z)
    (only layer.loops layer.hatches layers) (refl, h.0.height, above.0) front
