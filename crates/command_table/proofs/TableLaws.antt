-- What holds of every row of the table, by tests that are computed over the whole of it. Assumes nothing.
use Rattle.std.proofs.Common.{Option, Some, None}
use mathlib.Core.Path.{◌≡◌, refl, sym, ap, ◌∙◌}
use mathlib.Core.Bool.{Bool, true, false, cond, ◌&&◌}
use mathlib.Core.List.{List, [], ◌∷◌, ◌++◌, map}
use Prim.Native.Nat.{ℕ, zero, suc, ◌≤◌, ◌<◌}
use native.Mathlib.Decide.{dec_lt}
use native.Mathlib.Omega.{arith}
use borrow.Author.Tests.{leb-true, eqb-true}
use lib.Dec.{leb, eqb}
use lib.ListN.{length, get_or, get_or-map, length-append}
use Rattle.std.proofs.lemmas.List.{get_or_default}
use Rattle.words.proofs.Tests.{and_left, and_right, nowhere}
use Rattle.text.specs.Text.{ascii, same}
use Rattle.command_table.specs.declared.Form.{Form}
use Rattle.command_table.specs.declared.Verb.{Verb}
use Rattle.command_table.specs.declared.Row.{Row as Stored}
use Rattle.command_table.specs.declared.Entry.{Entry}
use Rattle.command_table.specs.Commands.{Row, rows, no_row, row_at, name_at, usage_at, entry_at, among, command_of}

-- A test of every row

abbrev every : (Row → Bool) → List Row → Bool
every f [] = true
every f (r ∷ l) = f r && every f l

every_at : (f : Row → Bool) (l : List Row) (i : ℕ) → every f l ≡ true → i < length l → f (get_or l i no_row) ≡ true
every_at f [] i e h = absurd (omega arith)
every_at f (r ∷ l) zero e h = and_left (f r) (every f l) e
every_at f (r ∷ l) (suc i) e h = every_at f l i (and_right (f r) (every f l) e) (omega arith)

-- What is read of rows

-- what one of them holds, as one of all that they hold
module _ (items : List Stored) (i : ℕ) (d : Stored) where
  pub read_name : (get_or items i d).name.now ≡ get_or (map (λ (r : Stored). r.name.now) items) i d.name.now
  read_name = sym (get_or-map (λ (r : Stored). r.name.now) items i d)

  pub read_usage : (get_or items i d).usage.now ≡ get_or (map (λ (r : Stored). r.usage.now) items) i d.usage.now
  read_usage = sym (get_or-map (λ (r : Stored). r.usage.now) items i d)

  pub read_form : (get_or items i d).form ≡ get_or (map (λ (r : Stored). r.form) items) i d.form
  read_form = sym (get_or-map (λ (r : Stored). r.form) items i d)

  pub read_verb : (get_or items i d).verb ≡ get_or (map (λ (r : Stored). r.verb) items) i d.verb
  read_verb = sym (get_or-map (λ (r : Stored). r.verb) items i d)

-- what the definition tells of a row, as one of all that it tells, whatever is read beyond them
told : {A : Type 0} (f : Row → A) (i : ℕ) (d : A) → i < length rows → get_or (map f rows) i d ≡ f (row_at i)
unfolding row_at
told f i d h = get_or_default (map f rows) i d (f no_row) h ∙ get_or-map f rows i no_row

abbrev pub names : List (List ℕ)
names = map (λ (r : Row). ascii r.name) rows

abbrev pub usages : List (List ℕ)
usages = map (λ (r : Row). ascii r.name ++ ascii r.wanted) rows

abbrev pub forms : List Form
forms = map (λ (r : Row). r.form) rows

abbrev pub verbs : List Verb
verbs = map (λ (r : Row). r.verb) rows

module _ (i : ℕ) (h : i < length rows) where
  pub name_told : (d : List ℕ) → get_or names i d ≡ name_at i
  unfolding name_at
  name_told d = told (λ (r : Row). ascii r.name) i d h

  pub usage_told : (d : List ℕ) → get_or usages i d ≡ usage_at i
  unfolding usage_at
  usage_told d = told (λ (r : Row). ascii r.name ++ ascii r.wanted) i d h

-- beyond the table
beyond_default : (l : List Row) (i : ℕ) → length l ≤ i → get_or l i no_row ≡ no_row
beyond_default [] i h = refl
beyond_default (x ∷ l) zero h = absurd (omega arith)
beyond_default (x ∷ l) (suc i) h = beyond_default l i (omega arith)

pub name_beyond : (i : ℕ) → length rows ≤ i → name_at i ≡ []
unfolding name_at row_at
name_beyond i h = ap (λ (r : Row). ascii r.name) (beyond_default rows i h)

pub usage_beyond : (i : ℕ) → length rows ≤ i → usage_at i ≡ []
unfolding usage_at row_at
usage_beyond i h = ap (λ (r : Row). ascii r.name ++ ascii r.wanted) (beyond_default rows i h)

abbrev short : Row → Bool
short r = leb (length (ascii r.name ++ ascii r.wanted)) 45

pub usage_short : (i : ℕ) → length (usage_at i) ≤ 45
unfolding usage_at row_at
usage_short i = go (dec_lt i (length rows))
  where
    go : Dec (i < length rows) → length (ascii (row_at i).name ++ ascii (row_at i).wanted) ≤ 45
    go (yes h) = leb-true _ 45 (every_at short rows i refl h)
    go (no h) = omega (arith, ap length (usage_beyond i (omega arith)))

-- the usage of a command begins with its name
name_in_front : (i : ℕ) → length (name_at i) ≤ length (usage_at i)
unfolding name_at usage_at
name_in_front i = omega (arith, length-append (ascii (row_at i).name) (ascii (row_at i).wanted))

-- The rows of the code

-- rows that hold the names, the usages, the forms and the verbs of the table: those of the code do, which each proof that reads them computes
pub record Rows (items : List Stored) : Type 0 where
  pub all_names : map (λ (r : Stored). r.name.now) items ≡ names
  pub all_usages : map (λ (r : Stored). r.usage.now) items ≡ usages
  pub all_forms : map (λ (r : Stored). r.form) items ≡ forms
  pub all_verbs : map (λ (r : Stored). r.verb) items ≡ verbs

-- what the code finds in its rows, whatever is read beyond them
pub record Held (items : List Stored) (i : ℕ) : Type 0 where
  pub name : (d : Stored) → (get_or items i d).name.now ≡ name_at i
  pub usage : (d : Stored) → (get_or items i d).usage.now ≡ usage_at i
  pub form : (d : Stored) → (get_or items i d).form ≡ (row_at i).form
  pub verb : (d : Stored) → (get_or items i d).verb ≡ (row_at i).verb
  pub front : length (name_at i) ≤ length (usage_at i)
  pub short : length (usage_at i) ≤ 45

-- what a command does
pub verb_here : (i : ℕ) → i < length rows → get_or (map (λ (r : Row). r.verb) rows) i Verb.Fresh ≡ (row_at i).verb
verb_here i h = told (λ (r : Row). r.verb) i Verb.Fresh h

pub held : (items : List Stored) (i : ℕ) → Rows items → i < length rows → Held items i
held items i r h = record {
  name = λ d. read_name items i d ∙ ap (λ l. get_or l i d.name.now) r.all_names ∙ name_told i h d.name.now;
  usage = λ d. read_usage items i d ∙ ap (λ l. get_or l i d.usage.now) r.all_usages ∙ usage_told i h d.usage.now;
  form = λ d. read_form items i d ∙ ap (λ l. get_or l i d.form) r.all_forms ∙ told (λ (r : Row). r.form) i d.form h;
  verb = λ d. read_verb items i d ∙ ap (λ l. get_or l i d.verb) r.all_verbs ∙ get_or_default verbs i d.verb Verb.Fresh h ∙ verb_here i h;
  front = name_in_front i;
  short = usage_short i;
}

-- Names

-- a name is one or more small letters
abbrev pub is_letter : ℕ → Bool
is_letter b = leb 97 b && leb b 122

abbrev pub letters_only : List ℕ → Bool
letters_only [] = true
letters_only (b ∷ word) = is_letter b && letters_only word

abbrev lettered : Row → Bool
lettered r = leb 1 (length (ascii r.name)) && letters_only (ascii r.name)

lettered_at : (i : ℕ) → i < length rows → leb 1 (length (name_at i)) && letters_only (name_at i) ≡ true
unfolding name_at row_at
lettered_at i h = every_at lettered rows i refl h

pub name_some : (i : ℕ) → i < length rows → 1 ≤ length (name_at i)
name_some i h = leb-true 1 (length (name_at i)) (and_left (leb 1 (length (name_at i))) (letters_only (name_at i)) (lettered_at i h))

pub name_letters : (i : ℕ) → i < length rows → letters_only (name_at i) ≡ true
name_letters i h = and_right (leb 1 (length (name_at i))) (letters_only (name_at i)) (lettered_at i h)

-- A name tells its row

abbrev all_below : ℕ → (ℕ → Bool) → Bool
all_below zero f = true
all_below (suc n) f = f n && all_below n f

below_at : (n : ℕ) (f : ℕ → Bool) (i : ℕ) → all_below n f ≡ true → i < n → f i ≡ true
below_at zero f i e h = absurd (omega arith)
below_at (suc n) f i e h = go (dec_lt i n) (below_at n f i (and_right (f n) (all_below n f) e))
  where
    go : Dec (i < n) → (i < n → f i ≡ true) → f i ≡ true
    go (yes l) r = r l
    go (no l) r = let q : i ≡ n = omega arith in rw q (and_left (f n) (all_below n f) e)

-- the command that was found is that of a row
abbrev is_row : ℕ → Option Entry → Bool
is_row i None = false
is_row i (Some e) = eqb e.row i

among_entry : (n i : ℕ) (word : List ℕ) (e : Entry) → among n i word ≡ Some e → e ≡ entry_at e.row
unfolding among
among_entry zero i word e q = let z : ◌≡◌ {A = ℕ} 0 1 = cc in absurd (omega arith)
among_entry (suc n) i word e q = go (same word (name_at i)) q (among_entry n (suc i) word e)
  where
    go : (t : Bool) → cond t (Some (entry_at i)) (among n (suc i) word) ≡ Some e
        → (among n (suc i) word ≡ Some e → e ≡ entry_at e.row) → e ≡ entry_at e.row
    go true p r = let s : entry_at i ≡ e = cc in sym s ∙ ap (λ (x : Entry). entry_at x.row) s
    go false p r = r p

first_row : (i : ℕ) → i < length rows → is_row i (command_of (name_at i)) ≡ true
unfolding command_of among same name_at row_at
first_row i h = below_at (length rows) (λ k. is_row k (command_of (name_at k))) i refl h

-- no two commands have one name
pub name_command : (i : ℕ) → i < length rows → command_of (name_at i) ≡ Some (entry_at i)
unfolding command_of
name_command i h = go (command_of (name_at i)) refl (first_row i h)
  where
    go : (x : (Option Entry)) → command_of (name_at i) ≡ x → is_row i x ≡ true → x ≡ Some (entry_at i)
    go None e t = nowhere t
    go (Some entry) e t =
        ap Some (among_entry (length rows) 0 (name_at i) entry e ∙ ap entry_at (eqb-true entry.row i t))
