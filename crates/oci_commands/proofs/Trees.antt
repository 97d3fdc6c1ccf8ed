-- What lines of a tree say of what is there.
use Rattle.std.proofs.Common.{◌≡◌, ℕ, ◌+◌, Bool, true, false, ◌&&◌, map, Vec, Global, List, [], ◌∷◌, ◌++◌, Option, None, Some, Result, Ok, Err, IfOk, IfSome, inl, inr, refl, sym, ap, subst, ◌∙◌, true≢false}
use Rattle.std.specs.Prelude.{◌↔◌, codes, IsTrue, if◌then◌else◌, ◌⊎◌}
use Rattle.std.specs.List.{All, Contains}
use Rattle.std.specs.declared.io.Error.{Error}
use Rattle.std.proofs.lemmas.List.Elements.{All-contains, All-nil, All-push}
use Rattle.oci_findings.specs.Checks.{IsAllowed, IsAsked}
use Rattle.oci_findings.specs.declared.outline.Mark.{Mark}
use Rattle.oci_findings.specs.declared.outline.Mark.TheVariants as mark
use Rattle.oci_findings.specs.declared.outline.Row.{Row}
use Rattle.oci_layout.specs.Documents.{IsRead}
use Rattle.oci_layout.specs.Looks.{Contents, Gives, may_miss, is_unread}
use Rattle.oci_layout.specs.Sound.{IsLarger, IsTop}
use Rattle.oci_layout.specs.declared.claim.Claim.{Claim}
use Rattle.oci_layout.specs.declared.claim.Fault.{Fault}
use Rattle.oci_layout.specs.declared.kind.Kind.{Kind as ContentKind}
use Rattle.oci_layout.specs.declared.kind.Kind.TheVariants as content
use Rattle.oci_commands.specs.Trees.AreTrees.{none, more}
use Rattle.oci_findings.proofs.Facts.{pushed_one}
use Rattle.oci_findings.specs.Outlines.{Entry, child_entry, entries_of, trunk}
use Rattle.oci_findings.specs.declared.outline.Child.{Child}
use Rattle.oci_json.specs.Engines.{ReadsAs}
use Rattle.serde_json.specs.Data.{Data}
use Rattle.std.proofs.lemmas.List.{append_assoc, append-nil}
use Rattle.oci_layout.specs.declared.store.Opened.TheVariants as opened
use Rattle.oci_layout.specs.declared.top.Top.TheVariants.{Missing, Unreadable, TooLarge, Bytes}
use Rattle.oci_schemas.specs.declared.kind.Kind.{Kind}
use Rattle.oci_schemas.specs.declared.kind.Kind.TheVariants as kind
use Rattle.oci_commands.specs.Trees.{AddsLine, AddsRow, AddsTree, AddsTrees, AreAlone, AreEntriesIn, AreIndexTrees, AreTreesIn, IsAgain, IsBelow, IsBelowBy, IsLineOf, IsWithin, HasNoTree, content_of, has_entries, opens, AreSaid, IsDrawn, IsFaulty, IsWhole, TellsWhole, WroteAlone, WroteTree, IsFoundIn, IsNoIndex, IsOpenedAs, IsSaid, IsSaidBy, IsSameDocument, IsThere, KeepsSaid, is_opened, missing_mark}

-- ---- a line more

pub line_added : (limit : ℕ) (steady : Bool) (contents : Contents) (before : List ℕ) (child : Child) (m : Mark) (old new : List Row)
    → (AreSaid limit steady contents old → IsSaidBy limit steady contents child.claim m) → AddsRow before child m old new → KeepsSaid limit steady contents old new
line_added limit steady contents before child m old new said a all =
    let here : IsSaidBy limit steady contents a.row.claim m = subst (λ d. IsSaidBy limit steady contents d m) (sym a.line.claim) (said all) in
    let there : IsSaidBy limit steady contents a.row.claim a.row.mark = subst (λ n. IsSaidBy limit steady contents a.row.claim n) (sym a.marked) here in
    subst (AreSaid limit steady contents) (sym a.more) (All-push (λ x. IsSaidBy limit steady contents x.claim x.mark) old a.row all there)

pub kept_both : (limit : ℕ) (steady : Bool) (contents : Contents) (a b c : List Row) → KeepsSaid limit steady contents a b → KeepsSaid limit steady contents b c
    → KeepsSaid limit steady contents a c
kept_both limit steady contents a b c f g before = g (f before)

-- ---- what is not there

missing_there : (limit : ℕ) (steady : Bool) (contents : List ℕ → Option (List ℕ)) (c : Claim) → contents c.digest ≡ None → (b : Bool) → may_miss c ≡ b
    → IsSaid limit steady contents c (if b then mark.Absent else mark.Missing)
missing_there limit steady contents c gone true e = (gone, e)
missing_there limit steady contents c gone false e = (gone, e)

missing_said : (limit : ℕ) (steady : Bool) (contents : List ℕ → Option (List ℕ)) (c : Claim) → contents c.digest ≡ None → IsSaid limit steady contents c (missing_mark c)
missing_said limit steady contents c gone = missing_there limit steady contents c gone (may_miss c) refl

pub top_missing_said : (limit : ℕ) (steady : Bool) (contents : Contents) (c : Claim) → IsTop limit steady contents c.digest Missing → IsSaidBy limit steady contents c (missing_mark c)
top_missing_said limit steady None c t = tt
top_missing_said limit steady (Some contents) c t = missing_said limit steady contents c t

pub top_unreadable_said : (limit : ℕ) (steady : Bool) (contents : Contents) (c : Claim) (why : Error) → IsTop limit steady contents c.digest (Unreadable why)
    → IsSaidBy limit steady contents c mark.Unreadable
top_unreadable_said limit steady None c why t = tt
top_unreadable_said limit steady (Some contents) c why t = t

pub top_large_said : (limit : ℕ) (steady : Bool) (contents : Contents) (c : Claim) → IsTop limit steady contents c.digest TooLarge → IsSaidBy limit steady contents c mark.TooLarge
top_large_said limit steady None c t = tt
top_large_said limit steady (Some contents) c t = t

-- ---- what was read

found_there : (limit : ℕ) (steady : Bool) (contents : List ℕ → Option (List ℕ)) (c : Claim) (bytes : List ℕ) (m : Mark) → contents c.digest ≡ Some bytes → IsFoundIn c.kind bytes m
    → IsSaid limit steady contents c m
found_there limit steady contents c bytes mark.Plain there f = (bytes, there, λ read. f)
found_there limit steady contents c bytes mark.Deep there f = (bytes, there, λ read. f)
found_there limit steady contents c bytes (mark.Faulty x) there f = (bytes, there, f)
found_there limit steady contents c bytes mark.Absent there f = absurd f
found_there limit steady contents c bytes mark.Missing there f = absurd f
found_there limit steady contents c bytes mark.Unreadable there f = absurd f
found_there limit steady contents c bytes mark.TooLarge there f = absurd f
found_there limit steady contents c bytes mark.Above there f = absurd f
found_there limit steady contents c bytes mark.Unread there f = absurd f

pub found_said : (limit : ℕ) (steady : Bool) (contents : Contents) (c : Claim) (bytes : Vec ℕ Global) (m : Mark) → IsTop limit steady contents c.digest (Bytes bytes)
    → IsFoundIn c.kind bytes.items m → IsSaidBy limit steady contents c m
found_said limit steady None c bytes m t f = tt
found_said limit steady (Some contents) c bytes m t f = found_there limit steady contents c bytes.items m t.0 f

-- ---- what is not read

pub open_missing_said : {B : Type 0} (remaining : B → Option (List ℕ)) (limit : ℕ) (steady : Bool) (contents : Contents) (c : Claim)
    → Gives remaining steady contents c.digest opened.Missing → IsSaidBy limit steady contents c (missing_mark c)
open_missing_said remaining limit steady None c g = tt
open_missing_said remaining limit steady (Some contents) c g = missing_said limit steady contents c g

pub open_unreadable_said : {B : Type 0} (remaining : B → Option (List ℕ)) (limit : ℕ) (steady : Bool) (contents : Contents) (c : Claim) (why : Error)
    → Gives remaining steady contents c.digest (opened.Unreadable why) → IsSaidBy limit steady contents c mark.Unreadable
open_unreadable_said remaining limit steady None c why g = tt
open_unreadable_said remaining limit steady (Some contents) c why g = g

unopened_there : (limit : ℕ) (steady : Bool) (contents : List ℕ → Option (List ℕ)) (c : Claim) (m : Mark) → IsThere contents c
    → (m ≡ mark.Plain) ⊎ ((m ≡ mark.Unread) × IsTrue (is_unread c)) → IsSaid limit steady contents c m
unopened_there limit steady contents c m there (inl plain) = subst (IsSaid limit steady contents c) (sym plain) there
unopened_there limit steady contents c m there (inr (unread, is)) = subst (IsSaid limit steady contents c) (sym unread) (there, is)

pub open_content_said : {B : Type 0} (remaining : B → Option (List ℕ)) (limit : ℕ) (steady : Bool) (contents : Contents) (c : Claim) (m : Mark) (blob : B) (size : Option ℕ)
    → Gives remaining steady contents c.digest (opened.Content blob size) → (m ≡ mark.Plain) ⊎ ((m ≡ mark.Unread) × IsTrue (is_unread c)) → is_opened c ≡ false
    → IsSaidBy limit steady contents c m
open_content_said remaining limit steady None c m blob size g says closed = tt
open_content_said remaining limit steady (Some contents) c m blob size (bytes, is, there, known) says closed =
    unopened_there limit steady contents c m (bytes, there, λ read. absurd (true≢false (sym read ∙ closed))) says

-- ---- what is known

there_too : (contents : List ℕ → Option (List ℕ)) (c d : Claim) → IsSameDocument c d → IsThere contents c → IsThere contents d
there_too contents c d (read, digest, kind) (bytes, there, opens) = (
  bytes,
  subst (λ x. contents x ≡ Some bytes) digest there,
  λ is. subst (λ k. IsOpenedAs k bytes) kind (opens read),
)

faulty_too : (contents : List ℕ → Option (List ℕ)) (c d : Claim) (f : Fault) → IsSameDocument c d → IsFaulty contents c f → IsFaulty contents d f
faulty_too contents c d f (read, digest, kind) (bytes, there, (claims, stands)) = (
  bytes,
  subst (λ x. contents x ≡ Some bytes) digest there,
  (claims, subst (λ k. IsRead k bytes (Some f) claims) kind stands),
)

-- of a line among those that say what is there
among_said : (limit : ℕ) (steady : Bool) (contents : Contents) (rows : List Row) (r : Row) → Contains rows r → AreSaid limit steady contents rows
    → IsSaidBy limit steady contents r.claim r.mark
among_said limit steady contents rows r among said = All-contains (λ x. IsSaidBy limit steady contents x.claim x.mark) rows r said among

-- what a mark says of one claim of a document, another says of another
said_again : (limit : ℕ) (steady : Bool) (contents : Contents) (c d : Claim) (n m : Mark) → IsSameDocument c d → IsAgain d n m → IsSaidBy limit steady contents c n
    → IsSaidBy limit steady contents d m
said_again limit steady None c d n m same again said = tt
said_again limit steady (Some contents) c d mark.Plain m same (inl is) said = subst (IsSaid limit steady contents d) (sym is) (there_too contents c d same said)
said_again limit steady (Some contents) c d mark.Plain m same (inr is) said = subst (IsSaid limit steady contents d) (sym is) (there_too contents c d same said)
said_again limit steady (Some contents) c d mark.Above m same is said = subst (IsSaid limit steady contents d) (sym is) (there_too contents c d same said)
said_again limit steady (Some contents) c d mark.Deep m same is said = subst (IsSaid limit steady contents d) (sym is) (there_too contents c d same said)
said_again limit steady (Some contents) c d mark.Absent m same is said =
    subst (IsSaid limit steady contents d) (sym is) (missing_said limit steady contents d (subst (λ x. contents x ≡ None) same.1 said.0))
said_again limit steady (Some contents) c d mark.Missing m same is said =
    subst (IsSaid limit steady contents d) (sym is) (missing_said limit steady contents d (subst (λ x. contents x ≡ None) same.1 said.0))
said_again limit steady (Some contents) c d mark.Unreadable m same is said = subst (IsSaid limit steady contents d) (sym is) said
said_again limit steady (Some contents) c d mark.TooLarge m same is said =
    subst (IsSaid limit steady contents d) (sym is) (subst (λ x. IsLarger limit (contents x)) same.1 said)
said_again limit steady (Some contents) c d (mark.Faulty f) m same is said = subst (IsSaid limit steady contents d) (sym is) (faulty_too contents c d f same said)
said_again limit steady (Some contents) c d mark.Unread m same is said = absurd is

pub known_among : (rows : List Row) (r : Row) (d : Claim) (o : Option Mark) → Contains rows r → IsSameDocument r.claim d → IfSome o (IsAgain d r.mark)
    → IfSome o (λ m. (limit : ℕ) (steady : Bool) (contents : Contents) → AreSaid limit steady contents rows → IsSaidBy limit steady contents d m)
known_among rows r d None among same again = tt
known_among rows r d (Some m) among same again = λ limit steady contents said.
    said_again limit steady contents r.claim d r.mark m same again (among_said limit steady contents rows r among said)

-- a mark alone
pub said_as : (limit : ℕ) (steady : Bool) (contents : Contents) (c : Claim) (n m : Mark) → n ≡ m → IsSaidBy limit steady contents c m → IsSaidBy limit steady contents c n
said_as limit steady contents c n m is said = subst (λ x. IsSaidBy limit steady contents c x) (sym is) said

-- ---- which lines there are

-- the descriptors below the line of a claim
pub row_below : (contents : Contents) (before : List ℕ) (child : Child) (m : Mark) (inner : List Entry) (old new : List Row) → AddsRow before child m old new
    → IsBelow contents child.claim m inner → AddsLine contents before child inner old new
row_below contents before child m inner old new a below = record {
  row = a.row;
  line = a.line;
  last = a.last;
  below = subst (λ d. IsBelow contents d a.row.mark inner) (sym a.line.claim) (subst (λ n. IsBelow contents child.claim n inner) (sym a.marked) below);
  more = a.more;
}

-- nothing is below it
pub tree_alone : (contents : Contents) (before : List ℕ) (child : Child) (inner : List Entry) (old new : List Row) → inner ≡ [] → AddsLine contents before child inner old new
    → AddsTree contents before (child_entry child) old new
tree_alone contents before child inner old new empty a = record {
  row = a.row;
  inner = [];
  inside = [];
  line = a.line;
  below = subst (IsBelow contents a.row.claim a.row.mark) empty a.below;
  trees = none _;
  more = a.more;
}

-- or these
pub tree_over : (contents : Contents) (before : List ℕ) (child : Child) (inner : List Entry) (old mid new : List Row) → AddsLine contents before child inner old mid
    → AddsTrees contents (before ++ trunk child.is_last) inner mid new → AddsTree contents before (child_entry child) old new
tree_over contents before child inner old mid new a b = record {
  row = a.row;
  inner = inner;
  inside = b.rows;
  line = a.line;
  below = a.below;
  trees = subst (λ l. AreTreesIn contents (before ++ trunk l) inner b.rows) (sym a.last) b.trees;
  more = b.more ∙ ap (λ l. l ++ b.rows) a.more ∙ append_assoc old (a.row ∷ []) b.rows;
}

pub trees_none : (contents : Contents) (before : List ℕ) (old : List Row) → AddsTrees contents before [] old old
trees_none contents before old = record { rows = []; trees = none before; more = sym (append-nil old) }

pub trees_more : (contents : Contents) (before : List ℕ) (cs : List Child) (c : Child) (old mid new : List Row) → AddsTrees contents before (map child_entry cs) old mid
    → AddsTree contents before (child_entry c) mid new → AddsTrees contents before (map child_entry (cs ++ c ∷ [])) old new
trees_more contents before cs c old mid new a b =
    subst (λ es. AddsTrees contents before es old new) (sym (pushed_one child_entry (cs ++ c ∷ []) cs c (child_entry c) refl refl)) (record {
      rows = a.rows ++ b.row ∷ b.inside;
      trees = more (child_entry c) b.row a.trees b.line b.below b.trees;
      more = b.more ∙ ap (λ l. l ++ b.row ∷ b.inside) a.more ∙ append_assoc old a.rows (b.row ∷ b.inside);
    })

-- from nothing on
pub said_from_none : (limit : ℕ) (steady : Bool) (contents : Contents) (old new : List Row) → old ≡ [] → KeepsSaid limit steady contents old new
    → AreSaid limit steady contents new
said_from_none limit steady contents old new empty keeps =
    keeps (subst (AreSaid limit steady contents) (sym empty) (All-nil (λ r. IsSaidBy limit steady contents r.claim r.mark)))

pub trees_from_none : (contents : Contents) (es : List Entry) (old new : List Row) → old ≡ [] → AddsTrees contents [] es old new → AreTreesIn contents [] es new
trees_from_none contents es old new empty a = subst (AreTreesIn contents [] es) (sym (a.more ∙ ap (λ l. l ++ a.rows) empty)) a.trees

-- a document alone
pub alone_more : (cs : List Child) (c : Child) (rows : List Row) (r : Row) → AreAlone (map child_entry cs) rows → IsLineOf [] (child_entry c) r → r.mark ≡ mark.Plain
    → AreAlone (map child_entry (cs ++ c ∷ [])) (rows ++ r ∷ [])
alone_more cs c rows r a line plain =
    subst (λ es. AreAlone es (rows ++ r ∷ [])) (sym (pushed_one child_entry (cs ++ c ∷ []) cs c (child_entry c) refl refl))
    (more (child_entry c) r a line (plain, refl) (none _))

-- ---- what is below a line

pub closed_unread : (c : Claim) (m : Mark) → is_opened c ≡ false → opens c m ≡ false
closed_unread c mark.Plain h = ap (λ o. o && has_entries c.kind) h
closed_unread c mark.Absent h = refl
closed_unread c mark.Missing h = refl
closed_unread c mark.Unreadable h = refl
closed_unread c mark.TooLarge h = refl
closed_unread c (mark.Faulty f) h = refl
closed_unread c mark.Above h = refl
closed_unread c mark.Unread h = refl
closed_unread c mark.Deep h = refl

-- where a document has no descriptors
pub closed_without : (c : Claim) → has_entries c.kind ≡ false → opens c mark.Plain ≡ false
closed_without c h = by (is_opened c)
  where
    both : (o : Bool) → (o && false) ≡ false
    both true = refl
    both false = refl

    by : (o : Bool) → (o && has_entries c.kind) ≡ false
    by o = ap (λ e. o && e) h ∙ both o

pub missing_closed : (c : Claim) → opens c (missing_mark c) ≡ false
missing_closed c = by (may_miss c)
  where
    by : (b : Bool) → opens c (if b then mark.Absent else mark.Missing) ≡ false
    by true = refl
    by false = refl

pub none_below : (contents : Contents) (c : Claim) (m : Mark) (inner : List Entry) → opens c m ≡ false → inner ≡ [] → IsBelow contents c m inner
none_below contents c m inner closed empty = subst (λ o. IsBelowBy o contents c inner) (sym closed) empty

-- a mark alone
pub mark_below : (contents : Contents) (c : Claim) (n m : Mark) (children : List Child) → n ≡ m → opens c m ≡ false → children ≡ [] → IsBelow contents c n (map child_entry children)
mark_below contents c n m children is closed empty = none_below contents c n (map child_entry children) (ap (opens c) is ∙ closed) (ap (map child_entry) empty)

no_entries : (k : ContentKind) (d : Data) → has_entries k ≡ false → entries_of k d ≡ []
no_entries content.Index d h = absurd (true≢false h)
no_entries content.DockerList d h = absurd (true≢false h)
no_entries content.Manifest d h = absurd (true≢false h)
no_entries content.DockerManifest d h = absurd (true≢false h)
no_entries content.Artifact d h = absurd (true≢false h)
no_entries content.Config d h = refl
no_entries content.DockerConfig d h = refl
no_entries content.Empty d h = refl
no_entries content.Opaque d h = refl

entries_there : (limit : ℕ) (steady : Bool) (contents : Contents) (c : Claim) (bytes : Vec ℕ Global) (inner : List Entry) → IsTop limit steady contents c.digest (Bytes bytes)
    → IsWithin c.kind bytes.items mark.Plain inner → IfSome contents (λ k. AreEntriesIn k c inner)
entries_there limit steady None c bytes inner t w = tt
entries_there limit steady (Some contents) c bytes inner t w = (bytes.items, t.0, w)

plain_below : (limit : ℕ) (steady : Bool) (contents : Contents) (c : Claim) (bytes : Vec ℕ Global) (inner : List Entry) → is_opened c ≡ true
    → IsTop limit steady contents c.digest (Bytes bytes) → IsWithin c.kind bytes.items mark.Plain inner → (b : Bool) → has_entries c.kind ≡ b → IsBelow contents c mark.Plain inner
plain_below limit steady contents c bytes inner opened t w true e =
    let is : (is_opened c && has_entries c.kind) ≡ true = ap (λ o. o && has_entries c.kind) opened ∙ e in
    subst (λ o. IsBelowBy o contents c inner) (sym is) (entries_there limit steady contents c bytes inner t w)
plain_below limit steady contents c bytes inner opened t (d, reads, shown) false e =
    none_below contents c mark.Plain inner (closed_without c e) (shown ∙ no_entries c.kind d e)

-- what was read
pub found_below : (limit : ℕ) (steady : Bool) (contents : Contents) (c : Claim) (bytes : Vec ℕ Global) (m : Mark) (inner : List Entry) → is_opened c ≡ true
    → IsTop limit steady contents c.digest (Bytes bytes) → IsWithin c.kind bytes.items m inner → IsBelow contents c m inner
found_below limit steady contents c bytes mark.Plain inner opened t w = plain_below limit steady contents c bytes inner opened t w (has_entries c.kind) refl
found_below limit steady contents c bytes mark.Absent inner opened t w = w
found_below limit steady contents c bytes mark.Missing inner opened t w = w
found_below limit steady contents c bytes mark.Unreadable inner opened t w = w
found_below limit steady contents c bytes mark.TooLarge inner opened t w = w
found_below limit steady contents c bytes (mark.Faulty f) inner opened t w = w
found_below limit steady contents c bytes mark.Above inner opened t w = w
found_below limit steady contents c bytes mark.Unread inner opened t w = w
found_below limit steady contents c bytes mark.Deep inner opened t w = w

-- ---- the index

pub no_index : (limit : ℕ) (steady : Bool) (tops : Contents) (name : List ℕ) (bytes : Vec ℕ Global) → IsTop limit steady tops (codes "index.json") (Bytes bytes)
    → ¬ IsAllowed (Some kind.Index) name bytes.items → IsNoIndex tops name
no_index limit steady None name bytes t wrong = tt
no_index limit steady (Some tops) name bytes t wrong = (bytes.items, t.0, wrong)

-- the lines of the descriptors in it
pub index_trees : (limit : ℕ) (steady : Bool) (tops contents : Contents) (bytes : Vec ℕ Global) (rows : List Row) → IsTop limit steady tops (codes "index.json") (Bytes bytes)
    → AreIndexTrees contents bytes.items rows → IfSome tops (λ t. (all : List ℕ) × (t (codes "index.json") ≡ Some all) × AreIndexTrees contents all rows)
index_trees limit steady None contents bytes rows t trees = tt
index_trees limit steady (Some tops) contents bytes rows t trees = (bytes.items, t.0, trees)

pub read_trees : (contents : Contents) (bytes : List ℕ) (d : Data) (es : List Entry) (rows : List Row) → ReadsAs bytes d → es ≡ entries_of content.Index d
    → AreTreesIn contents [] es rows → AreIndexTrees contents bytes rows
read_trees contents bytes d es rows reads is trees = (d, reads, subst (λ l. AreTreesIn contents [] l rows) is trees)

-- ---- what is written, and the status

pub wrote_alone : (name bytes title : List ℕ) (d : Data) (k : Kind) (c : ContentKind) (es : List Entry) (rows : List Row) (old new : Option (List ℕ)) → ReadsAs bytes d
    → IsAsked None name d k → content_of k ≡ Some c → es ≡ entries_of c d → AreAlone es rows → WroteTree name title old new rows → WroteAlone name bytes old new
wrote_alone name bytes title d k c es rows old new reads found has is lines wrote = record {
  value = d;
  of_kind = k;
  as_content = c;
  title = title;
  rows = rows;
  read = reads;
  found = found;
  has_tree = has;
  lines = subst (λ l. AreAlone l rows) is lines;
  wrote = wrote;
}

pub wrote_held : (held : Option (List ℕ)) (name bytes seen : List ℕ) (old new : Option (List ℕ)) → IfSome held (λ b. bytes ≡ b) → seen ≡ bytes → WroteAlone name seen old new
    → IfSome held (λ b. WroteAlone name b old new)
wrote_held None name bytes seen old new is same wrote = tt
wrote_held (Some b) name bytes seen old new is same wrote = subst (λ l. WroteAlone name l old new) (same ∙ is) wrote

pub no_tree_held : (held : Option (List ℕ)) (name bytes seen : List ℕ) → IfSome held (λ b. bytes ≡ b) → seen ≡ bytes → HasNoTree name seen → IfSome held (HasNoTree name)
no_tree_held None name bytes seen is same wrong = tt
no_tree_held (Some b) name bytes seen is same wrong = subst (HasNoTree name) (same ∙ is) wrong

pub tells_whole : (rows : List Row) (whole : Bool) (status : ℕ) → IsTrue whole ↔ IsWhole rows → (IsTrue whole → status ≡ 0) → (whole ≡ false → status ≡ 1) → TellsWhole rows status
tells_whole rows true status is zero one = inl (zero refl, is.0 refl)
tells_whole rows false status is zero one = inr (one refl, λ w. true≢false (sym (is.1 w)))

pub drawn_rows : {E : Type 0} (limit : ℕ) (steady : Bool) (tops contents : Contents) (name : List ℕ) (old new : Option (List ℕ)) (bytes : Vec ℕ Global) (rows : List Row) (r : Result ℕ E)
    → IsTop limit steady tops (codes "index.json") (Bytes bytes) → AreSaid limit steady contents rows → AreIndexTrees contents bytes.items rows
    → IfOk r (λ s. WroteTree name (codes "an image index") old new rows) → IfOk r (TellsWhole rows) → IfOk r (IsDrawn limit steady tops contents name old new)
drawn_rows limit steady tops contents name old new bytes rows (Err e) t said trees wrote told = tt
drawn_rows limit steady tops contents name old new bytes rows (Ok s) t said trees wrote told =
    inl (record { rows = rows; said = said; lines = index_trees limit steady tops contents bytes rows t trees; wrote = wrote; told = told })
