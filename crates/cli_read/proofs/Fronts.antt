-- What was read before, and what is still read.
use Rattle.std.proofs.Common.{◌≡◌, ℕ, ◌+◌, true, false, List, [], ◌∷◌, ◌++◌, refl, ap, sym, ◌∙◌, append_assoc, Option, Some, None, Result, Ok, Err}
use Rattle.std.specs.Prelude.{bytes_eq}
use Rattle.std.proofs.lemmas.List.{append-nil}
use Rattle.scad_geom.specs.declared.point.Pt.{Pt}
use Rattle.scad_geom.specs.declared.point.Edge.{Edge}
use Rattle.cli_text.specs.Cli.{Layer}
use Rattle.cli_read.specs.declared.fault.CliFault.{CliFault}
use Rattle.cli_read.specs.declared.fault.CliFault.TheVariants.{BadLine}
use Rattle.cli_read.specs.declared.line.Said.{Said}
use Rattle.cli_read.specs.declared.line.Said.TheVariants.{Height, Outline, Hatches}
use Rattle.cli_read.specs.Form.{end_line}
use Rattle.cli_read.specs.Reading.{◌>>=◌, Geometry, nothing, point_at, points_at, paired_at, said_at, onto, last_height, ended_at, geometry_at, layers_at}
use Rattle.cli_read.specs.View.{with_last}

-- ---- points

-- points that were read, and those behind them
abbrev pub with_front : List Pt → Result (List Pt) CliFault → Result (List Pt) CliFault
with_front front read = read >>= λ points. Ok (front ++ points)

one_more : (front : List Pt) (p : Pt) (read : Result (List Pt) CliFault)
    → with_front front (read >>= λ points. Ok (p ∷ points)) ≡ with_front (front ++ p ∷ []) read
one_more front p (Ok points) = ap (λ (ps : List Pt). Ok ps) (sym (append_assoc front (p ∷ []) points))
one_more front p (Err fault) = refl

pub points_go_on : (n : ℕ) (front : List Pt) (p : Pt) (x y : List ℕ) (words rest : List (List ℕ))
    (total : Result (List Pt) CliFault) →
    words ≡ x ∷ y ∷ rest → point_at n x y ≡ Ok p → with_front front (points_at n words) ≡ total
    → with_front (front ++ p ∷ []) (points_at n rest) ≡ total
unfolding points_at
points_go_on n front p x y words rest total are read so_far =
    let one : with_front front (points_at n words) ≡ with_front (front ++ p ∷ []) (points_at n rest) = rw (are, read)
    (one_more front p (points_at n rest)) in
    sym one ∙ so_far

pub points_stop : (n : ℕ) (front : List Pt) (x y : List ℕ) (words rest : List (List ℕ))
    (total : Result (List Pt) CliFault) (fault : CliFault) →
    words ≡ x ∷ y ∷ rest → point_at n x y ≡ Err fault → with_front front (points_at n words) ≡ total → total ≡ Err fault
unfolding points_at
points_stop n front x y words rest total fault are read so_far =
    let one : with_front front (points_at n words) ≡ Err fault = rw (are, read) refl in
    sym so_far ∙ one

pub points_odd : (n : ℕ) (front : List Pt) (x : List ℕ) (words : List (List ℕ)) (total : Result (List Pt) CliFault) →
    words ≡ x ∷ [] → with_front front (points_at n words) ≡ total → total ≡ Err (BadLine n)
unfolding points_at
points_odd n front x words total are so_far =
    let one : with_front front (points_at n words) ≡ Err (BadLine n) = rw are refl in
    sym so_far ∙ one

pub points_end : (n : ℕ) (front : List Pt) (words : List (List ℕ)) (total : Result (List Pt) CliFault) →
    words ≡ [] → with_front front (points_at n words) ≡ total → total ≡ Ok front
unfolding points_at
points_end n front words total are so_far =
    let one : with_front front (points_at n words) ≡ Ok front = rw are (ap (λ (ps : List Pt). Ok ps) (append-nil front))
    in
    sym so_far ∙ one

-- ---- hatches

-- hatches that were read, and those behind them
abbrev pub behind_hatches : List Edge → Result (List Edge) CliFault → Result (List Edge) CliFault
behind_hatches front read = read >>= λ hatches. Ok (front ++ hatches)

one_hatch_more : (front : List Edge) (h : Edge) (read : Result (List Edge) CliFault)
    → behind_hatches front (read >>= λ hatches. Ok (h ∷ hatches)) ≡ behind_hatches (front ++ h ∷ []) read
one_hatch_more front h (Ok hatches) = ap (λ (hs : List Edge). Ok hs) (sym (append_assoc front (h ∷ []) hatches))
one_hatch_more front h (Err fault) = refl

pub hatches_begin : (n : ℕ) (front : List Edge) (points : List Pt) → front ≡ []
    → behind_hatches front (paired_at n points) ≡ paired_at n points
hatches_begin n front points none = rw none (same (paired_at n points))
  where
    same : (read : Result (List Edge) CliFault) → behind_hatches [] read ≡ read
    same (Ok hatches) = refl
    same (Err fault) = refl

pub hatches_go_on : (n : ℕ) (front : List Edge) (a b : Pt) (points rest : List Pt)
    (total : Result (List Edge) CliFault) →
    points ≡ a ∷ b ∷ rest → behind_hatches front (paired_at n points) ≡ total
    → behind_hatches (front ++ record { a = a; b = b } ∷ []) (paired_at n rest) ≡ total
unfolding paired_at
hatches_go_on n front a b points rest total are so_far =
    let hatch : Edge = record { a = a; b = b } in
    let one : behind_hatches front (paired_at n points) ≡ behind_hatches (front ++ hatch ∷ []) (paired_at n rest) = rw
    are (one_hatch_more front hatch (paired_at n rest)) in
    sym one ∙ so_far

pub hatches_odd : (n : ℕ) (front : List Edge) (a : Pt) (points : List Pt) (total : Result (List Edge) CliFault) →
    points ≡ a ∷ [] → behind_hatches front (paired_at n points) ≡ total → total ≡ Err (BadLine n)
unfolding paired_at
hatches_odd n front a points total are so_far =
    let one : behind_hatches front (paired_at n points) ≡ Err (BadLine n) = rw are refl in
    sym so_far ∙ one

pub hatches_end : (n : ℕ) (front : List Edge) (points : List Pt) (total : Result (List Edge) CliFault) →
    points ≡ [] → behind_hatches front (paired_at n points) ≡ total → total ≡ Ok front
unfolding paired_at
hatches_end n front points total are so_far =
    let one : behind_hatches front (paired_at n points) ≡ Ok front = rw are (ap (λ (hs : List Edge). Ok hs)
    (append-nil front)) in
    sym so_far ∙ one

-- ---- layers

-- what is made of what stands behind
abbrev pub made_of : (Geometry → List Layer) → Result Geometry CliFault → Result (List Layer) CliFault
made_of make read = read >>= λ more. Ok (make more)

same_made : (f g : Geometry → List Layer) (read : Result Geometry CliFault) (s : Said)
    → ((more : Geometry) → f more ≡ g (onto s more)) →
    made_of g (read >>= λ more. Ok (onto s more)) ≡ made_of f read
same_made f g (Ok more) s same = ap (λ (ls : List Layer). Ok ls) (sym (same more))
same_made f g (Err fault) s same = refl

-- nothing was read before
pub layers_begin : (f : Geometry → List Layer) (last : Option ℕ) (all : List (List ℕ)) → last ≡ None
    → ((more : Geometry) → f more ≡ more.layers) →
    made_of f (geometry_at 7 last all) ≡ layers_at all
unfolding layers_at
layers_begin f last all none same = rw none (same_layers (geometry_at 7 None all))
  where
    same_layers : (read : Result Geometry CliFault) → made_of f read ≡ made_of (λ more. more.layers) read
    same_layers (Ok more) = ap (λ (ls : List Layer). Ok ls) (same more)
    same_layers (Err fault) = refl

pub layers_go_on : (n : ℕ) (last next : Option ℕ) (f g : Geometry → List Layer) (s : Said) (line : List ℕ)
    (all rest : List (List ℕ)) (total : Result (List Layer) CliFault) →
    all ≡ line ∷ rest → bytes_eq line end_line ≡ false → said_at (n + 1) last line ≡ Ok s → next ≡ last_height s last
    → ((more : Geometry) → f more ≡ g (onto s more)) →
    made_of g (geometry_at n last all) ≡ total → made_of f (geometry_at (n + 1) next rest) ≡ total
unfolding geometry_at
layers_go_on n last next f g s line all rest total are goes read is same so_far =
    let one : made_of g (geometry_at n last all) ≡ made_of f (geometry_at (n + 1) next rest) =
    rw (are, goes, read, is) (same_made f g (geometry_at (n + 1) (last_height s last) rest) s same) in
    sym one ∙ so_far

pub layers_stop : (n : ℕ) (last : Option ℕ) (g : Geometry → List Layer) (line : List ℕ) (all rest : List (List ℕ))
    (total : Result (List Layer) CliFault) (fault : CliFault) →
    all ≡ line ∷ rest → bytes_eq line end_line ≡ false → said_at (n + 1) last line ≡ Err fault
    → made_of g (geometry_at n last all) ≡ total → total ≡ Err fault
unfolding geometry_at
layers_stop n last g line all rest total fault are goes read so_far =
    let one : made_of g (geometry_at n last all) ≡ Err fault = rw (are, goes, read) refl in
    sym so_far ∙ one

pub layers_end : (n : ℕ) (last : Option ℕ) (g : Geometry → List Layer) (line : List ℕ) (all rest : List (List ℕ))
    (total : Result (List Layer) CliFault) →
    all ≡ line ∷ rest → bytes_eq line end_line ≡ true → made_of g (geometry_at n last all) ≡ total
    → total ≡ made_of g (ended_at (n + 1) rest)
unfolding geometry_at
layers_end n last g line all rest total are ends so_far =
    let one : made_of g (geometry_at n last all) ≡ made_of g (ended_at (n + 1) rest) = rw (are, ends) refl in
    sym so_far ∙ one

pub layers_wanting : (n : ℕ) (last : Option ℕ) (g : Geometry → List Layer) (all : List (List ℕ))
    (total : Result (List Layer) CliFault) →
    all ≡ [] → made_of g (geometry_at n last all) ≡ total → total ≡ Err (BadLine (n + 1))
unfolding geometry_at
layers_wanting n last g all total are so_far =
    let one : made_of g (geometry_at n last all) ≡ Err (BadLine (n + 1)) = rw are refl in
    sym so_far ∙ one

-- ---- layers that are being read

-- the layer at hand is whole, and the next one begins
pub begun_next : (closed whole : List Layer) (last : Option ℕ) (outlines : List (List Pt)) (hatches : List Edge) (z : ℕ)
    (more : Geometry) →
    closed ≡ with_last whole last outlines hatches nothing →
    with_last closed (Some z) [] [] more ≡ with_last whole last outlines hatches (onto (Height z) more)
begun_next closed whole None outlines hatches z more is =
    ap (λ (ls : List Layer). ls ++ record { z = z; loops = more.outlines; hatches = more.hatches } ∷ more.layers)
    (is ∙ append-nil whole)
begun_next closed whole (Some y) outlines hatches z more is =
    ap (λ (ls : List Layer). ls ++ record { z = z; loops = more.outlines; hatches = more.hatches } ∷ more.layers) is
    ∙ append_assoc whole (record { z = y; loops = outlines ++ []; hatches = hatches ++ [] } ∷ []) (record {
      z = z;
      loops = more.outlines;
      hatches = more.hatches;
    } ∷ more.layers)

-- one outline more
pub one_outline : (whole : List Layer) (last : Option ℕ) (outlines : List (List Pt)) (hatches : List Edge)
    (points : List Pt) (more : Geometry) →
    with_last whole last (outlines ++ points ∷ []) hatches more
    ≡ with_last whole last outlines hatches (onto (Outline points) more)
one_outline whole None outlines hatches points more = refl
one_outline whole (Some z) outlines hatches points more =
    ap (λ (os : List (List Pt)). whole ++ record { z = z; loops = os; hatches = hatches ++ more.hatches } ∷ more.layers)
    (append_assoc outlines (points ∷ []) more.outlines)

-- one line of hatches more
pub more_hatches : (whole : List Layer) (last : Option ℕ) (outlines : List (List Pt)) (hatches some : List Edge)
    (more : Geometry) →
    with_last whole last outlines (hatches ++ some) more
    ≡ with_last whole last outlines hatches (onto (Hatches some) more)
more_hatches whole None outlines hatches some more = refl
more_hatches whole (Some z) outlines hatches some more =
    ap (λ (hs : List Edge). whole ++ record { z = z; loops = outlines ++ more.outlines; hatches = hs } ∷ more.layers)
    (append_assoc hatches some more.hatches)
