-- The whole chart: its lines from the words of the columns and from the row of starts, how long it is, and how the call ends. Assumes nothing.
use Rattle.std.proofs.Common.{Result, Ok, Err}
use Prim.Native.Nat.{ℕ, ◌+◌, ◌-◌, ◌*◌, ◌^◌, ◌≤◌, ◌<◌}
use mathlib.Core.Path.{◌≡◌, sym, ap, ap₂, ◌∙◌}
use mathlib.Core.Bool.{false}
use mathlib.Core.List.{List, ◌++◌, append_assoc}
use native.Mathlib.Nat.{zero-add}
use native.Mathlib.Omega.{arith}
use borrow.Author.Tests.{leb-true, le-leb, lt-leb}
use lib.Dec.{leb}
use lib.ListN.{length, get_or, drop, length-append, get_or-append}
use lib.Seq.{get_or-append-add}
use Rattle.words.specs.Below.{list_below, join_below}
use Rattle.words.proofs.ListLaws.{list_length, list_at}
use Rattle.words.proofs.JoinLaws.{join_same}
use Rattle.text.specs.Text.{ascii}
use Rattle.text.specs.Wrote.{Put}
use Rattle.text.proofs.PutLaws.{placed_front}
use Rattle.unit.specs.declared.Plan.{Plan}
use Rattle.unit.specs.declared.FunctionUnit.{FunctionUnit}
use Rattle.unit.specs.declared.Refusal.{Refusal}
use Rattle.unit.specs.declared.Refusal.TheVariants.{BadRecord, ShortOutput}
use Rattle.unit.specs.Answers.{Answer}
use Rattle.unit.specs.Unit.{marked, columns_of, SoundUnit}
use Rattle.unit.specs.Calls.{check, and_then, tag_answer}
use Rattle.unit.proofs.Laws.{check_ok, tag_accepted, tag_range}
use Rattle.unit.proofs.SoundLaws.{sound_means}
use Rattle.unit.proofs.EndLaws.{then_both}
use Rattle.unit.proofs.ColumnLaws.{columns_marked}
use Rattle.diagram.specs.Answers.{written}
use Rattle.plan_record.specs.Write.{holds_cycle}
use Rattle.function_plan.specs.Own.{own_plan}
use Rattle.function_plan.proofs.Claims.{own_says, own_hands}
use Rattle.chart.specs.Cells.{start_cell, segment_cell}
use Rattle.chart.specs.Text.{at_left, line, unit_digit, segment_line, top_lines, chart_text, chart_of}
use Rattle.chart.specs.Answers.{plan_answer, units_answer, charted, chart_refusal, chart_answer, chart_out, simulate_refusal, simulate_answer, simulate_out}
use Rattle.chart.specs.Inner.{Ready, marks_in, lines_text, top_length, line_length, row_from}
use Rattle.chart.proofs.CellLaws.{cell_same}
use Rattle.chart.proofs.LineLaws.{line_cells, top_length_lem, lines_length}
use Rattle.chart.proofs.SegmentLaws.{segment_same}

-- A plan that is taken

pub plan_ready : (u : FunctionUnit) (p : Plan) → plan_answer u p ≡ Ok tt → Ready u p
unfolding plan_answer
plan_ready u p e =
    let b = then_both (tag_answer u p.tag) (check (holds_cycle p) BadRecord (Ok tt)) e in
    record { tag = b.0; holds = check_ok (holds_cycle p) BadRecord (Ok tt) b.1 }

pub ready_plan : (u : FunctionUnit) (p : Plan) → Ready u p → (Ok tt) ≡ plan_answer u p
unfolding plan_answer
ready_plan u p r = rw (r.tag, r.holds)

pub plan_unknown : (u : FunctionUnit) (p : Plan) (why : Refusal) → tag_answer u p.tag ≡ Err why → Err why ≡ plan_answer u p
unfolding plan_answer
plan_unknown u p why e = sym (ap (λ (a : Answer). and_then a (check (holds_cycle p) BadRecord (Ok tt))) e)

pub plan_bad : (u : FunctionUnit) (p : Plan) → tag_answer u p.tag ≡ Ok tt → holds_cycle p ≡ false → Err BadRecord ≡ plan_answer u p
unfolding plan_answer
plan_bad u p e h = rw (e, h)

module _ (u : FunctionUnit) (p : Plan) (r : Ready u p) where
  pub ready_sound : SoundUnit u
  ready_sound = (sound_means u).0 (tag_accepted u p.tag r.tag).sound

  -- The row of starts

  module _ (n : ℕ) where
    abbrev head : List ℕ
    head = line (ascii "unit") n unit_digit ++ ascii "\n" ++ at_left 8 (ascii "starts")

    head_length : length head ≡ row_from n
    head_length =
        length-append (line (ascii "unit") n unit_digit ++ ascii "\n") (at_left 8 (ascii "starts"))
        ∙ omega (arith, length-append (line (ascii "unit") n unit_digit) (ascii "\n"), line_cells (ascii "unit") n unit_digit (omega arith))

    abbrev row : List ℕ
    row = list_below n (start_cell u p)

    top_parts : (rest : List ℕ) → top_lines n (start_cell u p) ++ rest ≡ head ++ (row ++ (ascii "\n" ++ rest))
    top_parts rest =
        let first = line (ascii "unit") n unit_digit ++ ascii "\n" in
        let name = at_left 8 (ascii "starts") in
        append_assoc (first ++ (name ++ row)) (ascii "\n") rest ∙ ap (λ l. l ++ (ascii "\n" ++ rest)) (sym (append_assoc first name row))
        ∙ append_assoc head row (ascii "\n" ++ rest)

    row_at : (rest : List ℕ) (i : ℕ) → i < n → get_or (top_lines n (start_cell u p) ++ rest) (row_from n + i) 0 ≡ start_cell u p i
    row_at rest i h =
        ap₂ (λ (l : List ℕ) (k : ℕ). get_or l (k + i) 0) (top_parts rest) (sym head_length) ∙ get_or-append-add head (row ++ (ascii "\n" ++ rest)) i 0
        ∙ get_or-append row (ascii "\n" ++ rest) 0 i (omega (arith, list_length n (start_cell u p))) ∙ list_at n (start_cell u p) i h

    pub row_stands : {m : ℕ} {before mid : List ℕ} {e : ℕ} → Put m before 0 (top_lines n (start_cell u p)) mid e → (i : ℕ) → i < n → get_or mid (row_from n + i) 0 ≡ start_cell u p i
    row_stands {before = before} w i h =
        ap (λ l. get_or l (row_from n + i) 0) (w.wrote.bytes ∙ placed_front before (top_lines n (start_cell u p))) ∙ row_at (drop (length (top_lines n (start_cell u p))) before) i h

    pub top_end : {m : ℕ} {before mid : List ℕ} {e : ℕ} → Put m before 0 (top_lines n (start_cell u p)) mid e → e ≡ top_length n
    top_end w = w.wrote.next ∙ zero-add (length (top_lines n (start_cell u p))) ∙ top_length_lem n (start_cell u p)

    -- The lines of the segments

    marks_same : (s c : ℕ) → s < 16 → c < 32 → marks_in (columns_of u p.tag) s (c + 1) ≡ marked u p.tag (s + 1) (c + 1)
    marks_same s c s16 c32 =
        let t = tag_range u p.tag r.tag in
        let m = columns_marked u p.tag (s + 1) (c + 1) t.least t.most (omega arith) (omega arith) (omega arith) (omega arith) in
        let e : s + 1 - 1 ≡ s = omega arith in
        sym (rw e at m)

    lines_same : (mid : List ℕ) → ((i : ℕ) → i < n → get_or mid (row_from n + i) 0 ≡ start_cell u p i)
        → lines_text mid (row_from n) (columns_of u p.tag) u.columns n u.segments
        ≡ join_below u.segments (λ s. segment_line n (segment_cell u p (s + 1)) (s + 1))
    lines_same mid e =
        let d = ready_sound in
        join_same u.segments _ _
        (λ s h. segment_same n (s + 1) _ _
        (λ i k. cell_same _ _ _ _ i u.columns (λ c l. marks_same s c (omega (arith, d.segments.1)) (omega (arith, d.columns.1))) (λ j l. e j (omega arith))))

    -- the chart in parts
    pub chart_parts : (mid marks : List ℕ) → marks ≡ columns_of u p.tag → ((i : ℕ) → i < n → get_or mid (row_from n + i) 0 ≡ start_cell u p i)
        → top_lines n (start_cell u p) ++ lines_text mid (row_from n) marks u.columns n u.segments ≡ chart_of u p n
    unfolding chart_text
    chart_parts mid marks m e =
        ap (λ w. top_lines n (start_cell u p) ++ lines_text mid (row_from n) w u.columns n u.segments) m ∙ ap (λ l. top_lines n (start_cell u p) ++ l) (lines_same mid e)

    pub chart_length : n < 2 ^ 32 → length (chart_of u p n) ≡ top_length n + line_length n * u.segments
    unfolding chart_text
    chart_length w =
        length-append (top_lines n (start_cell u p)) _
        ∙ ap₂ ◌+◌ (top_length_lem n (start_cell u p))
        (lines_length n u.segments (λ s. segment_cell u p (s + 1)) w ready_sound.segments.1)

-- How the call ends

abbrev pub ChartEnds : FunctionUnit → Plan → ℕ → List ℕ → Result ℕ Refusal → List ℕ → Type 0
ChartEnds u p n bytes r after = (r ≡ chart_answer u p n (length bytes)) × (after ≡ chart_out u p n bytes)

-- the tests in turn
module _ (u : FunctionUnit) (p : Plan) (n room : ℕ) where
  pub refused_plan : (why : Refusal) → plan_answer u p ≡ Err why → Err why ≡ chart_refusal u p n room
  unfolding chart_refusal
  refused_plan why e = sym (ap (λ (a : Answer). and_then a (check (leb (length (chart_of u p n)) room) ShortOutput (units_answer u p n))) e)

  module _ (w : n < 2 ^ 32) (e : plan_answer u p ≡ Ok tt) (size : ℕ) (s : size ≡ top_length n + line_length n * u.segments) where
    long : length (chart_of u p n) ≡ size
    long = chart_length u p (plan_ready u p e) n w ∙ sym s

    pub refused_short : room < size → Err ShortOutput ≡ chart_refusal u p n room
    unfolding chart_refusal
    refused_short h = sym (simp (e, lt-leb (length (chart_of u p n)) room (omega (arith, long))))

    pub refused_unit : size ≤ room → units_answer u p n ≡ chart_refusal u p n room
    unfolding chart_refusal
    refused_unit h = sym (simp (e, le-leb (length (chart_of u p n)) room (omega (arith, long))))

  -- and where none refuses
  pub none_refused : chart_refusal u p n room ≡ Ok tt → Ready u p × (length (chart_of u p n) ≤ room)
  unfolding chart_refusal
  none_refused e =
      let b = then_both (plan_answer u p) (check (leb (length (chart_of u p n)) room) ShortOutput (units_answer u p n)) e in
      (plan_ready u p b.0, leb-true (length (chart_of u p n)) room (check_ok (leb (length (chart_of u p n)) room) ShortOutput (units_answer u p n) b.1))

  pub chart_room : n < 2 ^ 32 → chart_refusal u p n room ≡ Ok tt → top_length n + line_length n * u.segments ≤ room
  chart_room w e = let d = none_refused e in omega (arith, chart_length u p d.0 n w, d.1)

module _ (u : FunctionUnit) (p : Plan) (n : ℕ) (bytes : List ℕ) where
  chart_ends : (a : Answer) → chart_refusal u p n (length bytes) ≡ a → ChartEnds u p n bytes (charted a (chart_of u p n)) (written a (chart_of u p n) bytes)
  unfolding chart_answer chart_out
  chart_ends a e = (ap (λ x. charted x (chart_of u p n)) (sym e), ap (λ x. written x (chart_of u p n) bytes) (sym e))

  pub chart_refused : (why : Refusal) → chart_refusal u p n (length bytes) ≡ Err why → ChartEnds u p n bytes (Err why) bytes
  chart_refused why e = chart_ends (Err why) e

  pub chart_drawn : {m : ℕ} {after : List ℕ} {end : ℕ} → chart_refusal u p n (length bytes) ≡ Ok tt → Put m bytes 0 (chart_of u p n) after end
      → ChartEnds u p n bytes (Ok end) after
  chart_drawn e t =
      let r = chart_ends (Ok tt) e in (
        ap Ok (t.wrote.next ∙ zero-add (length (chart_of u p n))) ∙ r.0,
        t.wrote.bytes ∙ placed_front bytes (chart_of u p n) ∙ r.1,
      )

-- The chart of a function's own plan

abbrev SimulateEnds : FunctionUnit → ℕ → ℕ → List ℕ → Result ℕ Refusal → List ℕ → Type 0
SimulateEnds u q n bytes r after = (r ≡ simulate_answer u q n (length bytes)) × (after ≡ simulate_out u q n bytes)

module _ (u : FunctionUnit) (q n : ℕ) (bytes : List ℕ) where
  pub own_refused : {why : Refusal} → own_plan u q ≡ Err why → SimulateEnds u q n bytes (Err why) bytes
  unfolding simulate_answer simulate_out simulate_refusal
  own_refused {why} e =
      let a : simulate_refusal u q n (length bytes) ≡ Err why =
      ap (λ (x : Answer). and_then x (chart_refusal u u.plan n (length bytes))) (own_says u q e) in
      (sym (ap (λ x. charted x (chart_of u u.plan n)) a), sym (ap (λ x. written x (chart_of u u.plan n) bytes) a))

  pub own_drawn : {p : Plan} (r : Result ℕ Refusal) (after : List ℕ) → own_plan u q ≡ Ok p → ChartEnds u p n bytes r after → SimulateEnds u q n bytes r after
  unfolding simulate_answer simulate_out simulate_refusal chart_answer chart_out
  own_drawn r after e c =
      let d = own_hands u q e in
      let same = sym d.1 in
      let a : chart_refusal u u.plan n (length bytes) ≡ simulate_refusal u q n (length bytes) =
      sym (ap (λ (x : Answer). and_then x (chart_refusal u u.plan n (length bytes))) d.0) in (
        c.0 ∙ ap (λ p. chart_answer u p n (length bytes)) same ∙ ap (λ x. charted x (chart_of u u.plan n)) a,
        c.1 ∙ ap (λ p. chart_out u p n bytes) same ∙ ap (λ x. written x (chart_of u u.plan n) bytes) a,
      )
