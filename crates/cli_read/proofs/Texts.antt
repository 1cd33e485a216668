-- A text is read as what it says, and what it says is read.
use Rattle.std.proofs.Common.{◌≡◌, ℕ, ◌^◌, ◌<◌, true, List, [], ◌∷◌, ◌++◌, length, refl, ap, sym, subst, ◌∙◌, arith, append_assoc, Option, Some, None, Result, Ok, Err}
use Rattle.std.specs.Prelude.{IfOk, bytes_eq, ◌==◌, codes}
use Rattle.std.specs.Fmt.{decimal}
use Rattle.std.specs.List.{AllZip}
use Rattle.std.specs.Str.Lines.{lines}
use Rattle.std.proofs.lemmas.Bool.{eqb-true}
use Rattle.std.proofs.lemmas.Bool.Decides.{nat_tests}
use Rattle.std.proofs.lemmas.Slice.Eq.{bytes_eq-Decides}
use Rattle.cli_text.specs.Cli.{Layer}
use Rattle.cli_read.specs.declared.fault.CliFault.{CliFault}
use Rattle.cli_read.specs.declared.fault.CliFault.TheVariants.{BadLine, CountDiffers}
use Rattle.cli_read.specs.declared.layers.Cli.{Cli}
use Rattle.cli_read.specs.Form.{Reads, SaysLayer, AreAbove, head_lines, count_start, end_line}
use Rattle.cli_read.specs.Laws.{TextsSayOneList}
use Rattle.cli_read.specs.Reading.{◌>>=◌, Geometry, Gives, behind, count_of, geometry_at, fixed_at, count_in, count_at, head_at, layers_at, counted, reading}
use Rattle.cli_read.specs.View.{layers_of}
use Rattle.cli_read.proofs.Results.{bind_ok, bound, ok_is, passed, or_bad_ok}
use Rattle.cli_read.proofs.Numbers.{count_text, count_back}
use Rattle.cli_read.proofs.CommaWords.{behind_is, behind_back}
use Rattle.cli_read.proofs.LayerLines.{Stands, joined, geometry_stands, parts_back}

-- ---- the head

abbrev Counted : Type 0
Counted = ℕ × List (List ℕ)

fixed_is : (n : ℕ) (wanted : List ℕ) (ls rest : List (List ℕ)) → fixed_at n wanted ls ≡ Ok rest → ls ≡ wanted ∷ rest
fixed_is n wanted [] rest e = absurd cc
fixed_is n wanted (line ∷ more) rest e =
    let p = passed (bytes_eq line wanted) (BadLine n) more rest e in
    let is = (bytes_eq-Decides line wanted).0 p.0 in
    λ i. is i ∷ p.1 i

count_line_is : (n : ℕ) (line : List ℕ) (o : Option (List ℕ)) (count : ℕ) → behind count_start line ≡ o
    → count_in n o ≡ Ok count → (line ≡ count_start ++ decimal count) × (count < 2 ^ 32)
count_line_is n line None count b e = absurd cc
count_line_is n line (Some text) count b e =
    let is = count_text text count (or_bad_ok n (count_of text) count e) in
    (behind_is count_start line text b ∙ ap (λ (t : List ℕ). count_start ++ t) is.0, is.1)

count_is : (n : ℕ) (ls : List (List ℕ)) (c : Counted) → count_at n ls ≡ Ok c → (ls ≡ (count_start ++ decimal c.0) ∷ c.1)
    × (c.0 < 2 ^ 32)
count_is n [] c e = absurd cc
count_is n (line ∷ rest) c e =
    let a = bind_ok (count_in n (behind count_start line)) (λ count. Ok (count, rest)) c e in
    let is = count_line_is n line (behind count_start line) a.0 refl a.1 in
    let found : Counted = (a.0, rest) in
    subst (λ (d : Counted). (line ∷ rest ≡ (count_start ++ decimal d.0) ∷ d.1) × (d.0 < 2 ^ 32)) (ok_is found c a.2)
    (ap (λ (l : List ℕ). l ∷ rest) is.0, is.1)

-- a fixed line before others that are told
fixed_before : {Q : Type 0} (n : ℕ) (wanted : List ℕ) (f : List (List ℕ) → Result Counted CliFault) (h : Counted)
    (tail : List (List ℕ)) → ((rest : List (List ℕ)) → f rest ≡ Ok h → (rest ≡ tail) × Q)
    → (ls : List (List ℕ)) → (fixed_at n wanted ls >>= f) ≡ Ok h → (ls ≡ wanted ∷ tail) × Q
fixed_before n wanted f h tail told ls e =
    let a = bind_ok (fixed_at n wanted ls) f h e in
    let rest = told a.0 a.2 in
    (fixed_is n wanted ls a.0 a.1 ∙ ap (λ (x : List (List ℕ)). wanted ∷ x) rest.0, rest.1)

-- the head from each of its lines on
abbrev from_geometry : ℕ → List (List ℕ) → Result Counted CliFault
from_geometry count ls = fixed_at 7 (codes "$$GEOMETRYSTART") ls >>= λ x. Ok (count, x)

abbrev from_end : ℕ → List (List ℕ) → Result Counted CliFault
from_end count ls = fixed_at 6 (codes "$$HEADEREND") ls >>= from_geometry count

abbrev from_count : List (List ℕ) → Result Counted CliFault
from_count ls = count_at 5 ls >>= λ c. from_end c.0 c.1

abbrev from_version : List (List ℕ) → Result Counted CliFault
from_version ls = fixed_at 4 (codes "$$VERSION/200") ls >>= from_count

abbrev from_units : List (List ℕ) → Result Counted CliFault
from_units ls = fixed_at 3 (codes "$$UNITS/0.001") ls >>= from_version

abbrev from_ascii : List (List ℕ) → Result Counted CliFault
from_ascii ls = fixed_at 2 (codes "$$ASCII") ls >>= from_units

module _ (h : Counted) where
  geometry_is : (count : ℕ) (ls : List (List ℕ)) → from_geometry count ls ≡ Ok h
      → (ls ≡ codes "$$GEOMETRYSTART" ∷ h.1) × (count ≡ h.0)
  geometry_is count = fixed_before 7 (codes "$$GEOMETRYSTART") (λ x. Ok (count, x)) h h.1 (λ x e.
      let found : Counted = (count, x) in
      let is = ok_is found h e in
      (ap (λ (c : Counted). c.1) is, ap (λ (c : Counted). c.0) is))

  end_is : (count : ℕ) (ls : List (List ℕ)) → from_end count ls ≡ Ok h
      → (ls ≡ codes "$$HEADEREND" ∷ (codes "$$GEOMETRYSTART" ∷ h.1)) × (count ≡ h.0)
  end_is count = fixed_before 6 (codes "$$HEADEREND") (from_geometry count) h (codes "$$GEOMETRYSTART" ∷ h.1)
      (geometry_is count)

  abbrev counted_lines : List (List ℕ)
  counted_lines = (count_start ++ decimal h.0) ∷ (codes "$$HEADEREND" ∷ (codes "$$GEOMETRYSTART" ∷ h.1))

  counted_is : (ls : List (List ℕ)) → from_count ls ≡ Ok h → (ls ≡ counted_lines) × (h.0 < 2 ^ 32)
  counted_is ls e =
      let a = bind_ok (count_at 5 ls) (λ c. from_end c.0 c.1) h e in
      told a.0 (count_is 5 ls a.0 a.1) (end_is a.0.0 a.0.1 a.2)
    where
      told : (c : Counted) → (ls ≡ (count_start ++ decimal c.0) ∷ c.1) × (c.0 < 2 ^ 32)
          → (c.1 ≡ codes "$$HEADEREND" ∷ (codes "$$GEOMETRYSTART" ∷ h.1)) × (c.0 ≡ h.0)
          → (ls ≡ counted_lines) × (h.0 < 2 ^ 32)
      told c is rest =
          (is.0 ∙ (λ i. (count_start ++ decimal (rest.1 i)) ∷ rest.0 i), subst (λ (k : ℕ). k < 2 ^ 32) rest.1 is.1)

head_is : (ls : List (List ℕ)) (h : Counted) → head_at ls ≡ Ok h → (ls ≡ head_lines h.0 ++ h.1) × (h.0 < 2 ^ 32)
unfolding head_at
head_is ls h =
    let version = fixed_before 4 (codes "$$VERSION/200") from_count h (counted_lines h) (counted_is h) in
    let units = fixed_before 3 (codes "$$UNITS/0.001") from_version h (codes "$$VERSION/200" ∷ counted_lines h) version
    in
    let ascii = fixed_before 2 (codes "$$ASCII") from_units h
    (codes "$$UNITS/0.001" ∷ (codes "$$VERSION/200" ∷ counted_lines h)) units in
    fixed_before 1 (codes "$$HEADERSTART") from_ascii h
    (codes "$$ASCII" ∷ (codes "$$UNITS/0.001" ∷ (codes "$$VERSION/200" ∷ counted_lines h))) ascii ls

head_back : (count : ℕ) (rest : List (List ℕ)) → count < 2 ^ 32 → head_at (head_lines count ++ rest) ≡ Ok (count, rest)
unfolding head_at
head_back count rest h = rw (behind_back count_start (decimal count), count_back count h) refl

-- ---- whole texts

grouped : (count : ℕ) (parts : List (List (List ℕ))) →
    head_lines count ++ joined parts ++ end_line ∷ [] ≡ head_lines count ++ (joined parts ++ end_line ∷ [])
grouped count parts = append_assoc (head_lines count) (joined parts) (end_line ∷ [])

reads_by : (bytes : List ℕ) (layers found : List Layer) (head : Counted) (body : Geometry)
    → (lines bytes ≡ head_lines head.0 ++ head.1) × (head.0 < 2 ^ 32) → Stands None head.1 body
    → body.layers ≡ found → (head.0 == length found ≡ true) × (found ≡ layers) → Reads bytes layers
reads_by bytes layers found head body is stands told c =
    let count : head.0 ≡ length found = eqb-true head.0 (length found) c.0 in
    let same : body.layers ≡ layers = told ∙ c.1 in
    let are : lines bytes ≡ head_lines head.0 ++ (joined stands.parts ++ end_line ∷ []) =
    is.0 ∙ ap (λ (ls : List (List ℕ)). head_lines head.0 ++ ls)
    (stands.are ∙ ap (λ (ls : List (List ℕ)). ls ++ (joined stands.parts ++ end_line ∷ [])) (stands.none refl)) in
    record {
      parts = stands.parts;
      are = are ∙ ap (λ (n : ℕ). head_lines n ++ (joined stands.parts ++ end_line ∷ [])) (count ∙ ap length c.1) ∙ sym
          (grouped (length layers) stands.parts);
      each = subst (λ (ls : List Layer). AllZip SaysLayer stands.parts ls) same stands.each;
      above = subst (AreAbove None) same stands.above;
      count = omega (arith, is.1, count, ap length c.1);
    }

pub reading_is : (bytes : List ℕ) (layers : List Layer) → reading bytes ≡ Ok layers → Reads bytes layers
unfolding reading layers_at
reading_is bytes layers e =
    bound (head_at (lines bytes)) (λ head. layers_at head.1 >>= λ found. counted head.0 found) layers e (λ head h f.
    bound (layers_at head.1) (λ found. counted head.0 found) layers f (λ found l g.
    bound (geometry_at 7 None head.1) (λ body. Ok body.layers) found l (λ body b k.
    reads_by bytes layers found head body (head_is (lines bytes) head h) (geometry_stands 7 None head.1 body b)
    (ok_is body.layers found k)
    (passed (head.0 == length found) (CountDiffers head.0 (length found)) found layers g))))

pub reading_back : (bytes : List ℕ) (layers : List Layer) → Reads bytes layers → reading bytes ≡ Ok layers
unfolding reading layers_at
reading_back bytes layers r =
    let are : lines bytes ≡ head_lines (length layers) ++ (joined r.parts ++ end_line ∷ []) = r.are ∙ grouped
    (length layers) r.parts in
    let head = head_back (length layers) (joined r.parts ++ end_line ∷ []) r.count in
    let body = parts_back None r.parts layers r.each r.above 7 in
    let same : length layers == length layers ≡ true = grind (arith, nat_tests) in
    rw (are, head, body, same) refl

pub one_list : TextsSayOneList
one_list bytes some others a b = ok_is some others (sym (reading_back bytes some a) ∙ reading_back bytes others b)

-- ---- what `read` answers

pub said : (bytes : List ℕ) (r : Result Cli CliFault) → Gives (reading bytes) layers_of r
    → IfOk r (λ cli. Reads bytes (layers_of cli))
said bytes (Ok cli) e = reading_is bytes (layers_of cli) e
said bytes (Err fault) e = tt

pub whole : (bytes : List ℕ) (r : Result Cli CliFault) → Gives (reading bytes) layers_of r → (layers : List Layer)
    → Reads bytes layers → Gives (Ok layers) layers_of r
whole bytes r e layers reads = subst (λ (x : Result (List Layer) CliFault). Gives x layers_of r)
    (reading_back bytes layers reads) e
