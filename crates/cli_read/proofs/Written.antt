-- The lines of a text that was written are those of its layers.
use Rattle.std.proofs.Common.{◌≡◌, ℕ, suc, zero, ◌+◌, ◌-◌, ◌^◌, ◌<◌, ◌≤◌, Bool, true, false, cond, List, [], ◌∷◌, ◌++◌, length, take, get_or, nat_le, refl, ap, ap₂, sym, ◌∙◌, arith, append_assoc}
use Rattle.std.specs.Prelude.{ℤ, pos, negsuc, unsigned_abs, int_lt, codes, map, ◌&&◌, ◌==◌}
use Rattle.std.specs.Fmt.{decimal, signed_decimal}
use Rattle.std.specs.List.{flat_map, list_all, AllByRecursion, AllZip}
use Rattle.std.specs.Str.Lines.{lines, strip_carriage_return}
use Rattle.std.specs.Int.{IsInRange}
use Rattle.std.proofs.lemmas.Bool.{and_parts}
use Rattle.std.proofs.lemmas.Bool.Decides.{nat_tests}
use Rattle.std.proofs.lemmas.List.{append-nil}
use Rattle.std.proofs.lemmas.List.Concat.{flat_map-cons}
use Rattle.std.proofs.lemmas.List.Folds.{list_all-append}
use Rattle.std.proofs.lemmas.List.Sums.{AllPass-from_list_all}
use Rattle.scad_geom.specs.declared.point.Pt.{Pt}
use Rattle.scad_geom.specs.declared.point.Edge.{Edge}
use Rattle.scad_geom.specs.Area.{twice_area}
use Rattle.scad_geom.specs.Limits.{coordinate_limit}
use Rattle.scad_geom.specs.Within.{IsWithin}
use Rattle.cli_text.specs.Cli.{Layer, head_start, head_end, direction, point_text, closed, polyline_start, polyline_text, hatch_text, hatches_start, hatches_line, hatches_text, layer_start, layer_text, geometry_end}
use Rattle.cli_read.specs.Form.{count_start, head_lines, end_line, height_line, outline_line}
use Rattle.cli_read.specs.Form.{IsShape, AreHatches, Drawn, Polyline, Hatching, IsDrawn, outlines_among, hatches_among, SaysLayer}
use Rattle.cli_read.specs.Laws.{WrittenTextsSayTheirLayers}
use Rattle.cli_read.proofs.Numbers.{Lacks, decimal_passes}
use Rattle.cli_read.proofs.TextLines.{feed, line_fed}
use Rattle.cli_read.proofs.CommaWords.{points_text}
use Rattle.cli_read.proofs.Outlines.{closed_near}
use Rattle.cli_read.proofs.HatchLines.{ends_of, points_of_hatches, ends_near}
use Rattle.cli_read.proofs.LayerLines.{joined}

-- ---- no byte of a line ends one

abbrev is_printed : ℕ → Bool
is_printed b = nat_le 32 b

abbrev IsPrinted : List ℕ → Type 0
IsPrinted bs = list_all is_printed bs ≡ true

both_printed : (a b : List ℕ) → IsPrinted a → IsPrinted b → IsPrinted (a ++ b)
both_printed a b p q = list_all-append is_printed a b ∙ ap₂ (λ (x y : Bool). x && y) p q

printed_lacks : (bs : List ℕ) → IsPrinted bs → Lacks feed bs
printed_lacks bs h k d l = let p : nat_le 32 (get_or bs k d) ≡ true = AllPass-from_list_all is_printed bs h k d l in grind (arith, nat_tests)

last_kept : (bs : List ℕ) (k : ℕ) → IsPrinted bs → (get_or bs k 0 == 13) ≡ false
last_kept [] k h = refl
last_kept (b ∷ bs) zero h = let p = (and_parts (is_printed b) (list_all is_printed bs) h).0 in grind (arith, nat_tests)
last_kept (b ∷ bs) (suc k) h = last_kept bs k (and_parts (is_printed b) (list_all is_printed bs) h).1

printed_kept : (bs : List ℕ) → IsPrinted bs → strip_carriage_return bs ≡ bs
printed_kept bs h = ap (λ (b : Bool). cond b (take (length bs - 1) bs) bs) (last_kept bs (length bs - 1) h)

line_printed : (line rest : List ℕ) → IsPrinted line → lines (line ++ feed ∷ rest) ≡ line ∷ lines rest
line_printed line rest h = line_fed line rest (printed_lacks line h) (printed_kept line h)

-- ---- numbers and points

decimal_printed : (n : ℕ) → n < 2 ^ 64 → IsPrinted (decimal n)
decimal_printed n h = decimal_passes is_printed digit_printed n h
  where
    digit_printed : (c : ℕ) → IsInRange 48 57 c → is_printed c ≡ true
    digit_printed c digit = grind (arith, nat_tests)

signed_printed : (z : ℤ) → unsigned_abs z ≤ coordinate_limit → IsPrinted (signed_decimal z)
signed_printed (pos n) h = decimal_printed n (omega arith)
signed_printed (negsuc n) h = decimal_printed (suc n) (omega arith)

point_printed : (p : Pt) → IsWithin coordinate_limit p → IsPrinted (point_text p)
point_printed p near =
    both_printed (codes "," ++ signed_decimal p.x ++ codes ",") (signed_decimal p.y)
    (both_printed (codes "," ++ signed_decimal p.x) (codes ",") (signed_printed p.x near.x) refl)
    (signed_printed p.y near.y)

points_printed : (ps : List Pt) → AllByRecursion (IsWithin coordinate_limit) ps → IsPrinted (points_text ps)
points_printed [] near = refl
points_printed (p ∷ ps) near =
    ap (list_all is_printed) (flat_map-cons point_text p ps) ∙ both_printed (point_text p) (points_text ps)
    (point_printed p near.0) (points_printed ps near.1)

-- ---- lines

direction_is : (points : List Pt) → direction points ≤ 1
direction_is points = by_area (int_lt (pos 0) (twice_area points))
  where
    by_area : (b : Bool) → cond b 1 0 ≤ 1
    by_area true = omega arith
    by_area false = omega arith

abbrev written : List Pt → List ℕ
written points = outline_line (direction points) points

start_printed : IsPrinted polyline_start
unfolding polyline_start
start_printed = refl

written_printed : (points : List Pt) → IsShape points → IsPrinted (written points)
written_printed points shape =
    let d = decimal (direction points) in
    let n = decimal (length points + 1) in
    let start = both_printed polyline_start d start_printed (decimal_printed (direction points)
    (omega (arith, direction_is points))) in
    let count = both_printed (polyline_start ++ d ++ codes ",") n (both_printed (polyline_start ++ d) (codes ",") start
    refl) (decimal_printed (length points + 1) (omega (arith, shape.count))) in
    both_printed (polyline_start ++ d ++ codes "," ++ n) (points_text (closed points)) count
    (points_printed (closed points) (closed_near points shape.near))

abbrev AreShapes : List (List Pt) → Type 0
AreShapes loops = AllByRecursion IsShape loops

outlines_lines : (loops : List (List Pt)) (rest : List ℕ) → AreShapes loops
    → lines (flat_map polyline_text loops ++ rest) ≡ map written loops ++ lines rest
outlines_lines [] rest h = refl
outlines_lines (points ∷ loops) rest h =
    ap (λ (t : List ℕ). lines (t ++ rest)) (flat_map-cons polyline_text points loops)
    ∙ ap lines (grouped (written points) (flat_map polyline_text loops) rest)
    ∙ line_printed (written points) (flat_map polyline_text loops ++ rest) (written_printed points h.0)
    ∙ ap (λ (ls : List (List ℕ)). written points ∷ ls) (outlines_lines loops rest h.1)
  where
    grouped : (line more rest : List ℕ) → (line ++ codes "\n") ++ more ++ rest ≡ line ++ feed ∷ (more ++ rest)
    grouped line more rest = simp append_assoc

hatches_start_printed : IsPrinted hatches_start
unfolding hatches_start
hatches_start_printed = refl

hatches_printed : (hs : List Edge) → AreHatches hs → IsPrinted (hatches_line hs)
hatches_printed hs kind =
    both_printed (hatches_start ++ decimal (length hs)) (flat_map hatch_text hs)
    (both_printed hatches_start (decimal (length hs)) hatches_start_printed (decimal_printed (length hs)
    (omega (arith, kind.count))))
    (ap (list_all is_printed) (points_of_hatches hs) ∙ points_printed (ends_of hs) (ends_near hs kind.near))

-- the line of a layer's hatches, where it has any
abbrev hatch_lines : List Edge → List (List ℕ)
hatch_lines [] = []
hatch_lines (h ∷ hs) = hatches_line (h ∷ hs) ∷ []

hatches_lines : (hs : List Edge) (rest : List ℕ) → AreHatches hs → lines (hatches_text hs ++ rest)
    ≡ hatch_lines hs ++ lines rest
hatches_lines [] rest kind = refl
hatches_lines (h ∷ hs) rest kind =
    ap lines (grouped (hatches_line (h ∷ hs)) rest)
    ∙ line_printed (hatches_line (h ∷ hs)) rest (hatches_printed (h ∷ hs) kind)
  where
    grouped : (line rest : List ℕ) → (line ++ codes "\n") ++ rest ≡ line ++ feed ∷ rest
    grouped line rest = simp append_assoc

height_printed : (z : ℕ) → z < 2 ^ 32 → IsPrinted (height_line z)
unfolding layer_start
height_printed z h = decimal_printed z (omega arith)

-- the lines of a layer behind its height
abbrev behind_height : Layer → List (List ℕ)
behind_height layer = map written layer.loops ++ hatch_lines layer.hatches

abbrev part_of : Layer → List (List ℕ)
part_of layer = height_line layer.z ∷ behind_height layer

layer_lines : (layer : Layer) (rest : List ℕ) → layer.z < 2 ^ 32 → AreShapes layer.loops → AreHatches layer.hatches
    → lines (layer_text layer ++ rest) ≡ part_of layer ++ lines rest
layer_lines layer rest h shapes kind =
    let polylines = flat_map polyline_text layer.loops in
    let hatching = hatches_text layer.hatches in
    ap lines (grouped (height_line layer.z) polylines hatching rest)
    ∙ line_printed (height_line layer.z) (polylines ++ (hatching ++ rest)) (height_printed layer.z h)
    ∙ ap (λ (ls : List (List ℕ)). height_line layer.z ∷ ls) (outlines_lines layer.loops (hatching ++ rest) shapes
    ∙ ap (λ (ls : List (List ℕ)). map written layer.loops ++ ls) (hatches_lines layer.hatches rest kind)
    ∙ sym (append_assoc (map written layer.loops) (hatch_lines layer.hatches) (lines rest)))
  where
    grouped : (line more hatching rest : List ℕ) → (line ++ codes "\n" ++ more ++ hatching) ++ rest
        ≡ line ++ feed ∷ (more ++ (hatching ++ rest))
    grouped line more hatching rest = simp append_assoc

abbrev AreLow : List Layer → Type 0
AreLow layers = AllByRecursion (λ layer. layer.z < 2 ^ 32) layers

abbrev AreShaped : List Layer → Type 0
AreShaped layers = AllByRecursion (λ layer. AreShapes layer.loops) layers

abbrev AreHatched : List Layer → Type 0
AreHatched layers = AllByRecursion (λ layer. AreHatches layer.hatches) layers

layers_lines : (layers : List Layer) (rest : List ℕ) → AreLow layers → AreShaped layers → AreHatched layers
    → lines (flat_map layer_text layers ++ rest) ≡ joined (map part_of layers) ++ lines rest
layers_lines [] rest low shapes kinds = refl
layers_lines (layer ∷ layers) rest low shapes kinds =
    ap (λ (t : List ℕ). lines (t ++ rest)) (flat_map-cons layer_text layer layers)
    ∙ ap lines (append_assoc (layer_text layer) (flat_map layer_text layers) rest)
    ∙ layer_lines layer (flat_map layer_text layers ++ rest) low.0 shapes.0 kinds.0
    ∙ ap (λ (ls : List (List ℕ)). part_of layer ++ ls) (layers_lines layers rest low.1 shapes.1 kinds.1)
    ∙ sym (append_assoc (part_of layer) (joined (map part_of layers)) (lines rest))
    ∙ ap (λ (ls : List (List ℕ)). ls ++ lines rest) (sym (flat_map-cons (λ (ls : List (List ℕ)). ls) (part_of layer)
    (map part_of layers)))

end_lines : lines geometry_end ≡ end_line ∷ []
unfolding geometry_end end_line
end_lines = refl

count_printed : (n : ℕ) → n < 2 ^ 32 → IsPrinted (count_start ++ decimal n)
unfolding count_start
count_printed n h = decimal_printed n (omega arith)

start_of : (n : ℕ) (rest : List ℕ) → head_start ++ (decimal n ++ rest) ≡
    codes "$$HEADERSTART" ++ feed
    ∷ (codes "$$ASCII" ++ feed ∷ (codes "$$UNITS/0.001" ++ feed ∷ (codes "$$VERSION/200" ++ feed
    ∷ ((count_start ++ decimal n) ++ rest))))
unfolding head_start count_start
start_of n rest = refl

behind_count : (rest : List ℕ) → head_end ++ rest
    ≡ feed ∷ (codes "$$HEADEREND" ++ feed ∷ (codes "$$GEOMETRYSTART" ++ feed ∷ rest))
unfolding head_end
behind_count rest = refl

head_are : (n : ℕ) (rest : List ℕ) → n < 2 ^ 32 → lines (head_start ++ (decimal n ++ (head_end ++ rest))) ≡ head_lines n
    ++ lines rest
head_are n rest h =
    let geometry = codes "$$GEOMETRYSTART" ++ feed ∷ rest in
    let «end» = codes "$$HEADEREND" ++ feed ∷ geometry in
    let count = (count_start ++ decimal n) ++ feed ∷ «end» in
    let version = codes "$$VERSION/200" ++ feed ∷ count in
    let units = codes "$$UNITS/0.001" ++ feed ∷ version in
    let ascii = codes "$$ASCII" ++ feed ∷ units in
    ap lines (start_of n (head_end ++ rest) ∙ ap (λ (t : List ℕ). codes "$$HEADERSTART" ++ feed
    ∷ (codes "$$ASCII" ++ feed ∷ (codes "$$UNITS/0.001" ++ feed ∷ (codes "$$VERSION/200" ++ feed
    ∷ ((count_start ++ decimal n) ++ t))))) (behind_count rest))
    ∙ line_printed (codes "$$HEADERSTART") ascii refl
    ∙ ap (λ (ls : List (List ℕ)). codes "$$HEADERSTART" ∷ ls) (line_printed (codes "$$ASCII") units refl
    ∙ ap (λ (ls : List (List ℕ)). codes "$$ASCII" ∷ ls) (line_printed (codes "$$UNITS/0.001") version refl
    ∙ ap (λ (ls : List (List ℕ)). codes "$$UNITS/0.001" ∷ ls) (line_printed (codes "$$VERSION/200") count refl
    ∙ ap (λ (ls : List (List ℕ)). codes "$$VERSION/200" ∷ ls) (line_printed (count_start ++ decimal n) «end»
    (count_printed n h)
    ∙ ap (λ (ls : List (List ℕ)). (count_start ++ decimal n) ∷ ls) (line_printed (codes "$$HEADEREND") geometry refl
    ∙ ap (λ (ls : List (List ℕ)). codes "$$HEADEREND" ∷ ls) (line_printed (codes "$$GEOMETRYSTART") rest refl))))))

-- ---- the whole text

-- what the line of hatches says, where there is one
abbrev hatches_drawn : List Edge → List Drawn
hatches_drawn [] = []
hatches_drawn (h ∷ hs) = Hatching (h ∷ hs) ∷ []

abbrev drawn_of : List (List Pt) → List Edge → List Drawn
drawn_of [] hs = hatches_drawn hs
drawn_of (points ∷ loops) hs = Polyline points ∷ drawn_of loops hs

outlines_are : (loops : List (List Pt)) (hs : List Edge) → outlines_among (drawn_of loops hs) ≡ loops
outlines_are [] [] = refl
outlines_are [] (h ∷ hs) = refl
outlines_are (points ∷ loops) hs = ap (λ (os : List (List Pt)). points ∷ os) (outlines_are loops hs)

hatches_are : (loops : List (List Pt)) (hs : List Edge) → hatches_among (drawn_of loops hs) ≡ hs
hatches_are [] [] = refl
hatches_are [] (h ∷ hs) = append-nil (h ∷ hs)
hatches_are (points ∷ loops) hs = hatches_are loops hs

drawn_are : (loops : List (List Pt)) (hs : List Edge) → AreShapes loops → AreHatches hs
    → AllZip IsDrawn (map written loops ++ hatch_lines hs) (drawn_of loops hs)
drawn_are [] [] shapes kind = tt
drawn_are [] (h ∷ hs) shapes kind = (record { some = omega arith; is = refl; kind = kind }, tt)
drawn_are (points ∷ loops) hs shapes kind = (
  record {
    direction = direction points;
    either = direction_is points;
    is = refl;
    shape = shapes.0;
  },
  drawn_are loops hs shapes.1 kind,
)

layers_are : (layers : List Layer) → AreLow layers → AreShaped layers → AreHatched layers
    → AllZip SaysLayer (map part_of layers) layers
layers_are [] low shapes kinds = tt
layers_are (layer ∷ layers) low shapes kinds = (
  record {
    behind = behind_height layer;
    drawn = drawn_of layer.loops layer.hatches;
    are = refl;
    each = drawn_are layer.loops layer.hatches shapes.0 kinds.0;
    outlines = outlines_are layer.loops layer.hatches;
    hatches = hatches_are layer.loops layer.hatches;
    height = low.0;
  },
  layers_are layers low.1 shapes.1 kinds.1,
)

text_grouped : (a b c d e : List ℕ) → (a ++ b ++ c) ++ d ++ e ≡ a ++ (b ++ (c ++ (d ++ e)))
text_grouped a b c d e = simp append_assoc

lines_grouped : (a b c : List (List ℕ)) → a ++ (b ++ c) ≡ a ++ b ++ c
lines_grouped a b c = simp append_assoc

pub written_texts : WrittenTextsSayTheirLayers
written_texts layers h = record {
  parts = map part_of layers;
  are =
      ap lines (text_grouped head_start (decimal (length layers)) head_end (flat_map layer_text layers) geometry_end)
      ∙ head_are (length layers) (flat_map layer_text layers ++ geometry_end) h.count
      ∙ ap (λ (ls : List (List ℕ)). head_lines (length layers) ++ ls) (layers_lines layers geometry_end h.heights
      h.shapes h.hatches ∙ ap (λ (ls : List (List ℕ)). joined (map part_of layers) ++ ls) end_lines)
      ∙ lines_grouped (head_lines (length layers)) (joined (map part_of layers)) (end_line ∷ []);
  each = layers_are layers h.heights h.shapes h.hatches;
  above = h.above;
  count = h.count;
}
