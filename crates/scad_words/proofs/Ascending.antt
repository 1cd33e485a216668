-- The table that a text is has its keys in ascending order: each edit of its nodes keeps them so.
use Rattle.std.proofs.Common.{◌≡◌, ℕ, ◌==◌, Bool, true, false, Ordering, Less, Equal, Greater, nat_cmp, is_lt}
use Rattle.std.proofs.Common.{List, [], ◌∷◌, length, suc, zero, Option, Some, None, option_map, option_and_then}
use Rattle.std.proofs.Common.{refl, ap, ◌∙◌, inl, inr, ◌⊎◌}
use Rattle.std.proofs.Common.{subst}
use Rattle.std.proofs.lemmas.Bool.{cases_Bool}
use Rattle.std.proofs.lemmas.Cmp.{nat_list_cmp_total}
use Rattle.std.proofs.lemmas.Option.{none-some, same_Some}
use Rattle.std.specs.Prelude.{if◌then◌else◌}
use Rattle.std.specs.Str.{is_utf8}
use Rattle.std.specs.Cmp.Lexicographic.{slice_cmp}
use Rattle.std.specs.Ordering.{ordering_reverse}
use Rattle.toml.specs.Data.{Data, Members, is_before, same_key}
use Rattle.toml.specs.Tables.{Node, Nodes, no_nodes, node, open_table, implicit, dotted, get_node, insert, replace}
use Rattle.toml.specs.Tables.{close}
use Rattle.toml.specs.Tables.{Edit, header_node, dot_node, by_header, by_dot, along_header, along_dots, Definition}
use Rattle.toml.specs.Tables.{key_value}
use Rattle.toml.specs.Tables.{std_table, array_table, new_node, redefine, at_found, at_key, put, Document, define_as}
use Rattle.toml.specs.Tables.{define, Expression}
use Rattle.toml.specs.Parse.{line, lines, skip_bom, parse_document}
use Rattle.scad_words.specs.Settings.{document}
use Rattle.scad_words.specs.Keys.{Ascend, KeysAscend}

-- the keys of nodes ascend
abbrev NodesAscend : Nodes → Type 0
NodesAscend ns = Ascend (close ns)

-- nodes that there may be have keys that ascend
abbrev IfAscend : Option Nodes → Type 0
IfAscend None = Unit {0}
IfAscend (Some ns) = NodesAscend ns

pub cases_ordering : (o : Ordering) → (o ≡ Less) ⊎ ((o ≡ Equal) ⊎ (o ≡ Greater))
cases_ordering Less = inl refl
cases_ordering Equal = inr (inl refl)
cases_ordering Greater = inr (inr refl)

lesser : (k l : List ℕ) → slice_cmp nat_cmp k l ≡ Greater → is_lt (slice_cmp nat_cmp l k) ≡ true
lesser k l more = ap is_lt (nat_list_cmp_total.antisymm l k ∙ ap ordering_reverse more)

-- ---- one new key
-- a key that comes before the nodes and before a new key comes before both
before_insert : (l k : List ℕ) (x : Node) (ns : Nodes) → is_lt (slice_cmp nat_cmp l k) ≡ true
    → is_before l (close ns) ≡ true
    → is_before l (close (insert k x ns)) ≡ true
before_insert l k x no_nodes new old = new
before_insert l k x (node m y ns) new old =
    elim (cases_ordering (slice_cmp nat_cmp k m)) [
      | inl less ↦ rw less new
      | inr other ↦ elim other [
        | inl tie ↦ rw tie old
        | inr more ↦ rw more old
      ]
    ]

insert_ascends : (k : List ℕ) (x : Node) (ns : Nodes) → NodesAscend ns → NodesAscend (insert k x ns)
insert_ascends k x no_nodes h = (refl, tt)
insert_ascends k x (node l y ns) h =
    elim (cases_ordering (slice_cmp nat_cmp k l)) [
      | inl less ↦ rw less (ap is_lt less, h)
      | inr other ↦ elim other [
        | inl tie ↦ rw tie h
        | inr more ↦ rw more (before_insert l k x ns (lesser k l more) h.0, insert_ascends k x ns h.1)
      ]
    ]

-- ---- another node at a key
before_replace : (l k : List ℕ) (x : Node) (ns : Nodes) → is_before l (close ns) ≡ true
    → is_before l (close (replace k x ns)) ≡ true
before_replace l k x no_nodes h = h
before_replace l k x (node m y ns) h =
    elim (cases_Bool (same_key k m)) [
      | inl same ↦ rw same h
      | inr other ↦ rw other h
    ]

replace_ascends : (k : List ℕ) (x : Node) (ns : Nodes) → NodesAscend ns → NodesAscend (replace k x ns)
replace_ascends k x no_nodes h = h
replace_ascends k x (node l y ns) h =
    elim (cases_Bool (same_key k l)) [
      | inl same ↦ rw same h
      | inr other ↦ rw other (before_replace l k x ns h.0, replace_ascends k x ns h.1)
    ]

-- ---- edits
inserted : {A : Type 0} (k : List ℕ) (w : A → Node) (ns : Nodes) → NodesAscend ns → (made : Option A)
    → IfAscend (option_map (λ new. insert k (w new) ns) made)
inserted k w ns h None = tt
inserted k w ns h (Some new) = insert_ascends k (w new) ns h

replaced : (k : List ℕ) (ns : Nodes) → NodesAscend ns → (made : Option Node)
    → IfAscend (option_map (λ new. replace k new ns) made)
replaced k ns h None = tt
replaced k ns h (Some new) = replace_ascends k new ns h

header_ascends : (k : List ℕ) (edit : Edit) (ns : Nodes) → NodesAscend ns → (found : Option Node)
    → IfAscend (by_header k edit ns found)
header_ascends k edit ns h None = inserted k (open_table implicit) ns h (edit no_nodes)
header_ascends k edit ns h (Some x) = replaced k ns h (header_node edit x)

dot_ascends : (k : List ℕ) (edit : Edit) (ns : Nodes) → NodesAscend ns → (found : Option Node)
    → IfAscend (by_dot k edit ns found)
dot_ascends k edit ns h None = inserted k (open_table dotted) ns h (edit no_nodes)
dot_ascends k edit ns h (Some x) = replaced k ns h (dot_node edit x)

found_ascends : (k : List ℕ) (what : Definition) (ns : Nodes) → NodesAscend ns → (found : Option Node)
    → IfAscend (at_found k what ns found)
found_ascends k what ns h None = insert_ascends k (new_node what) ns h
found_ascends k what ns h (Some x) = replaced k ns h (redefine what x)

key_ascends : (k : List ℕ) (what : Definition) (ns : Nodes) → NodesAscend ns → IfAscend (at_key k what ns)
unfolding at_key
key_ascends k what ns h = found_ascends k what ns h (get_node k ns)

path_ascends : (path : List (List ℕ)) (edit : Edit) → ((ns : Nodes) → NodesAscend ns → IfAscend (edit ns))
    → (ns : Nodes)
    → NodesAscend ns → IfAscend (along_header path edit ns)
unfolding along_header
path_ascends [] edit keeps ns h = keeps ns h
path_ascends (k ∷ path) edit keeps ns h = header_ascends k (along_header path edit) ns h (get_node k ns)

dots_ascend : (path : List (List ℕ)) (edit : Edit) → ((ns : Nodes) → NodesAscend ns → IfAscend (edit ns)) → (ns : Nodes)
    → NodesAscend ns → IfAscend (along_dots path edit ns)
unfolding along_dots
dots_ascend [] edit keeps ns h = keeps ns h
dots_ascend (k ∷ path) edit keeps ns h = dot_ascends k (along_dots path edit) ns h (get_node k ns)

put_ascends : (key : List (List ℕ) × List ℕ) (d : Data) (ns : Nodes) → NodesAscend ns → IfAscend (put key d ns)
put_ascends key d ns h = dots_ascend key.0 (at_key key.1 (key_value d)) (key_ascends key.1 (key_value d)) ns h

-- ---- documents
abbrev DocumentAscends : Option Document → Type 0
DocumentAscends None = Unit {0}
DocumentAscends (Some doc) = NodesAscend doc.0

rooted : (last : List (List ℕ)) (root : Option Nodes) → IfAscend root
    → DocumentAscends (option_map (λ root. (root, last)) root)
rooted last None h = tt
rooted last (Some root) h = h

defined : (doc : Document) (key : List (List ℕ) × List ℕ) (what : Definition) → NodesAscend doc.0
    → DocumentAscends (define_as doc key what)
defined doc key (key_value d) h = rooted doc.1 _ (path_ascends doc.1 (put key d) (put_ascends key d) doc.0 h)
defined doc key std_table h = rooted _ _ (path_ascends key.0 (at_key key.1 std_table) (key_ascends key.1 std_table)
    doc.0 h)
defined doc key array_table h = rooted _ _ (path_ascends key.0 (at_key key.1 array_table)
    (key_ascends key.1 array_table) doc.0 h)

define_ascends : (doc : Document) (e : Expression) → NodesAscend doc.0 → DocumentAscends (define doc e)
unfolding define
define_ascends doc e h = defined doc e.0 e.1 h

-- the next lines, where the document so far ascends
after_definition : (next : Option Document) (more : Document → Option Document)
    → ((doc : Document) → NodesAscend doc.0 → DocumentAscends (more doc)) → DocumentAscends next
    → DocumentAscends (option_and_then more next)
after_definition None more keeps h = tt
after_definition (Some doc) more keeps h = keeps doc h

after_line : (doc : Document) (found : Option (Expression × List ℕ)) (more : List ℕ → Document → Option Document)
    → ((rest : List ℕ) (doc : Document) → NodesAscend doc.0 → DocumentAscends (more rest doc)) → NodesAscend doc.0
    → DocumentAscends (option_and_then (λ e. option_and_then (more e.1) (define doc e.0)) found)
after_line doc None more keeps h = tt
after_line doc (Some e) more keeps h = after_definition (define doc e.0) (more e.1) (keeps e.1)
    (define_ascends doc e.0 h)

at_end : (b : Bool) (doc : Document) (rest : Option Document) → NodesAscend doc.0 → DocumentAscends rest
    → DocumentAscends (if b then Some doc else rest)
at_end true doc rest h more = h
at_end false doc rest h more = more

-- at the front of an expression, or at the end
at_front : (n : ℕ) (doc : Document) (start : List ℕ)
    → ((next : Document) (rest : List ℕ) → NodesAscend next.0 → DocumentAscends (lines n next rest)) → NodesAscend doc.0
    → DocumentAscends (if length start == 0 then Some doc
    else option_and_then (λ e. option_and_then (λ next. lines n next e.1) (define doc e.0)) (line start))
at_front n doc start keeps h =
    at_end (length start == 0) doc _ h
    (after_line doc (line start) (λ rest next. lines n next rest) (λ rest next. keeps next rest) h)

lines_ascend : (n : ℕ) (doc : Document) (text : List ℕ) → NodesAscend doc.0 → DocumentAscends (lines n doc text)
unfolding lines
lines_ascend zero doc text h = tt
lines_ascend (suc n) doc text h = at_front n doc _ (λ next rest. lines_ascend n next rest) h

closed : (doc : Option Document) (ms : Members) → DocumentAscends doc
    → option_map (λ doc. close doc.0) doc ≡ Some ms → Ascend ms
closed None ms h is = absurd (none-some ms is)
closed (Some doc) ms h is = subst Ascend (same_Some (close doc.0) ms is) h

parsed : (text : List ℕ) (ms : Members) → parse_document text ≡ Some ms → Ascend ms
unfolding parse_document
parsed text ms is = closed (lines (suc (length text)) (no_nodes, []) (skip_bom text)) ms
    (lines_ascend (suc (length text)) (no_nodes, []) (skip_bom text) tt) is

read_by : (b : Bool) (bytes : List ℕ) (ms : Members) → (if b then parse_document bytes else None) ≡ Some ms → Ascend ms
read_by true bytes ms is = parsed bytes ms is
read_by false bytes ms is = absurd (none-some ms is)

pub keys_ascend : KeysAscend
unfolding document
keys_ascend bytes ms is = read_by (is_utf8 bytes) bytes ms is
