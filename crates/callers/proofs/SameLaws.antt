-- What is found on records that are the queues of a list is what the list says. Assumes nothing.
use Rattle.std.proofs.Common.{Ok, Err, Some}
use Prim.Native.Nat.{ℕ, ◌+◌, ◌-◌, ◌*◌, ◌≤◌}
use mathlib.Core.Path.{◌≡◌, refl, ap, ◌∙◌, sym}
use mathlib.Core.Bool.{Bool, true}
use mathlib.Core.List.{List, [], ◌∷◌}
use native.Mathlib.Omega.{arith}
use lib.Dec.{leb, ltb}
use lib.ListN.{length, take, drop, length-take, length-drop}
use borrow.Author.Tests.{leb-true, leb-false, ltb-true, le-leb, lt-leb}
use Rattle.words.proofs.Tests.{by_test, and_left}
use Rattle.unit.specs.declared.FunctionUnit.{FunctionUnit}
use Rattle.unit.specs.declared.Refusal.TheVariants.{NotSound, NoSuchTag, ShortOutput, TooManyWait}
use Rattle.unit.specs.Answers.{Answer}
use Rattle.unit.specs.Unit.{inside, sound_of}
use Rattle.unit.specs.Calls.{check}
use Rattle.unit.proofs.Laws.{within, inside_of}
use Rattle.controller.specs.declared.Bank.{Bank}
use Rattle.queue.specs.declared.Waiting.{Waiting}
use Rattle.queue.specs.Line.{tags_inside}
use Rattle.queue.specs.Calls.{arrival_answer, oldest, passed_then}
use Rattle.callers.specs.Turn.{each_caller}
use Rattle.callers.specs.Queues.{room, place_of, queue_of, count_of, waiting_of}
use Rattle.callers.specs.Calls.{one_of, caller_first, arrival_at, unit_at, caller_of, passed_at}
use Rattle.callers.specs.Parts.{arrival_in, unit_in}
use Rattle.callers.specs.Inner.{Among}
use Rattle.callers.proofs.EachLaws.{each_true, each_false, each_same, each_at}
use Rattle.callers.proofs.PartLaws.{queue_length, line_part}
use Rattle.callers.proofs.TestedLaws.{one_of_lem, reaches, few_at, fits_at, unit_accepted, unit_long}
use Rattle.callers.proofs.TryLaws.{caller_there}

-- a queue is all in the list exactly where the list reaches its end
long_queue : (list : List Waiting) (i : ℕ) → leb room (length (queue_of list i)) ≡ leb (place_of i + room) (length list)
long_queue list i = by_test (leb (place_of i + room) (length list))
    (λ t. le-leb room (length (queue_of list i)) (omega (arith, queue_length list i (leb-true _ _ t))) ∙ sym t)
    (λ f. lt-leb room (length (queue_of list i)) (omega (arith, leb-false (place_of i + room) (length list) f, length-take room (drop (place_of i) list), length-drop (place_of i) list)) ∙ sym f)

-- and all C queues are where it reaches the end of the last
pub long_queues : (list : List Waiting) (C : ℕ) → 1 ≤ C → each_caller C (λ i. leb room (length (queue_of list i))) ≡ leb (room * C) (length list)
long_queues list C some = by_test (leb (room * C) (length list))
    (λ t. each_true C _ (λ i h. long_queue list i
    ∙ le-leb (place_of i + room) (length list) (omega (arith, leb-true (room * C) (length list) t, (within i C h).least, (within i C h).most))) ∙ sym t)
    (λ f. each_false C _ (C - 1) (omega arith) (long_queue list (C - 1 + 1)
    ∙ lt-leb (place_of (C - 1 + 1) + room) (length list) (omega (arith, leb-false (room * C) (length list) f))) ∙ sym f)

-- An arrival

module _ (u : FunctionUnit) (C i : ℕ) (list ys : List Waiting) (same : one_of C i ≡ true → place_of i + room ≤ length ys → queue_of list i ≡ queue_of ys i) where
  pub arrival_same : (count : ℕ) (w : Waiting) → arrival_in u C i (length ys) list count w.tag ≡ arrival_at u C i (queue_of ys i) count w
  unfolding arrival_at arrival_answer
  arrival_same count w = by_test (one_of C i) (λ o. simp (long_queue ys i, reaches (place_of i) (length ys)) (rest o)) (λ o. simp o)
    where
      -- the tests of a queue, by the tags that wait
      tests : Bool → Answer
      tests fit =
          caller_first u C i
          (check (sound_of u) NotSound
          (check (leb (place_of i + room) (length ys)) ShortOutput
          (check (inside w.tag u.functions) NoSuchTag (check (ltb count room) TooManyWait (check fit NoSuchTag (Ok tt))))))

      rest : one_of C i ≡ true → tests (tags_inside u.functions (take count (drop (place_of i) list))) ≡ tests (tags_inside u.functions (take count (queue_of ys i)))
      rest o = by_test (leb (place_of i + room) (length ys))
          (λ l. by_test (ltb count room)
          (λ f. ap (λ (line : List Waiting). tests (tags_inside u.functions line))
          (sym (line_part list i count (omega (arith, ltb-true count room f))) ∙ ap (take count) (same o (leb-true _ _ l))))
          (λ f. simp f))
          (λ l. simp l)

-- A time unit

module _ (u : FunctionUnit) (C turn : ℕ) (list ys : List Waiting) (counts : List ℕ)
    (same : inside C 4 ≡ true → room * C ≤ length ys → (i : ℕ) → inside i C ≡ true → queue_of list i ≡ queue_of ys i) where
  fits_same : inside C 4 ≡ true → room * C ≤ length ys → each_caller C (few_at counts) ≡ true
      → each_caller C (fits_at u.functions list counts) ≡ each_caller C (λ i. tags_inside u.functions (waiting_of ys counts i))
  fits_same c l few = each_same C (fits_at u.functions list counts) (λ i. tags_inside u.functions (waiting_of ys counts i))
      (λ i h. ap (tags_inside u.functions)
      (sym (line_part list i (count_of counts i) (leb-true _ _ (each_at C (few_at counts) i few h))) ∙ ap (take (count_of counts i)) (same c l i h)))

  pub unit_same : unit_in u C turn (length ys) list counts ≡ unit_at u C turn ys counts
  unfolding unit_at
  unit_same = by_test (sound_of u)
      (λ s. simp s (by_test (one_of C turn) (λ o. simp (o, long_queues ys C (within C 4 (and_left (inside C 4) _ o)).least) (rest (and_left (inside C 4) _ o))) (λ o. simp o)))
      (λ s. simp s)
    where
      rest : inside C 4 ≡ true
          → check (leb (room * C) (length ys)) ShortOutput
          (check (each_caller C (few_at counts)) TooManyWait (check (each_caller C (fits_at u.functions list counts)) NoSuchTag (Ok tt)))
          ≡ check (leb (room * C) (length ys)) ShortOutput
          (check (each_caller C (few_at counts)) TooManyWait (check (each_caller C (λ i. tags_inside u.functions (waiting_of ys counts i))) NoSuchTag (Ok tt)))
      rest c = by_test (leb (room * C) (length ys))
          (λ l. by_test (each_caller C (few_at counts))
          (λ f. ap (λ b. check (leb (room * C) (length ys)) ShortOutput (check (each_caller C (few_at counts)) TooManyWait (check b NoSuchTag (Ok tt))))
          (fits_same c (leb-true _ _ l) f))
          (λ f. simp f))
          (λ l. simp l)

  -- what is started is the same
  pub passed_same : (b : Bank) → passed_then (unit_in u C turn (length ys) list counts) (oldest b (waiting_of list counts (caller_of C turn counts))) ≡ passed_at u b C turn ys counts
  unfolding passed_at
  passed_same b =
      ap (λ (a : Answer). passed_then a (oldest b (waiting_of list counts (caller_of C turn counts)))) unit_same ∙ go (unit_at u C turn ys counts) refl
    where
      go : (a : Answer) → unit_at u C turn ys counts ≡ a
          → passed_then a (oldest b (waiting_of list counts (caller_of C turn counts))) ≡ passed_then a (oldest b (waiting_of ys counts (caller_of C turn counts)))
      go (Err why) e = refl
      go (Ok _) e =
          let d = unit_accepted u C turn (length ys) list counts (unit_same ∙ e) in
          let o = caller_there C turn counts (one_of_lem C turn d.turn_there) in
          ap (λ (q : List Waiting). oldest b (take (count_of counts (caller_of C turn counts)) q))
          (same (and_left (inside C 4) _ d.turn_there) (long e) (caller_of C turn counts) (inside_of _ C o.least o.most))
        where
          long : unit_at u C turn ys counts ≡ Ok tt → room * C ≤ length ys
          long e = unit_long u C turn (length ys) list counts (unit_same ∙ e)

-- A start: the caller is there, and its queue with a record in it
pub record StartedThere (C i : ℕ) (ys : List Waiting) (counts : List ℕ) : Type 0 where
  pub four : inside C 4 ≡ true
  pub long : room * C ≤ length ys
  pub caller : Among C i
  pub full : length (queue_of ys i) ≡ room
  pub some : 1 ≤ count_of counts i
  pub few : count_of counts i ≤ room

-- an accepted time unit at which caller i has a record
accepted_there : (u : FunctionUnit) (C turn : ℕ) (ys : List Waiting) (counts : List ℕ) (w : Waiting) (line : List Waiting) → unit_at u C turn ys counts ≡ Ok tt
    → waiting_of ys counts (caller_of C turn counts) ≡ w ∷ line → StartedThere C (caller_of C turn counts) ys counts
accepted_there u C turn ys counts w line e l =
    let i = caller_of C turn counts in
    let p = unit_same u C turn ys ys counts (λ c m j h. refl) ∙ e in
    let d = unit_accepted u C turn (length ys) ys counts p in
    let long = unit_long u C turn (length ys) ys counts p in
    let o = caller_there C turn counts (one_of_lem C turn d.turn_there) in
    record {
      four = and_left (inside C 4) _ d.turn_there;
      long = long;
      caller = o;
      full = queue_length ys i (omega (arith, long, o.least, o.most));
      some = omega (arith, length-take (count_of counts i) (queue_of ys i), ap length l);
      few = leb-true _ _ (each_at C (few_at counts) i d.few (inside_of i C o.least o.most));
    }

pub started_there : (u : FunctionUnit) (b : Bank) (C turn : ℕ) (ys : List Waiting) (counts : List ℕ) (w : Waiting) → passed_at u b C turn ys counts ≡ Ok (Some w)
    → StartedThere C (caller_of C turn counts) ys counts
unfolding passed_at oldest
started_there u b C turn ys counts w e = go (unit_at u C turn ys counts) refl (waiting_of ys counts (caller_of C turn counts)) refl e
  where
    go : (a : Answer) → unit_at u C turn ys counts ≡ a → (line : List Waiting) → waiting_of ys counts (caller_of C turn counts) ≡ line
        → passed_then a (oldest b line) ≡ Ok (Some w) → StartedThere C (caller_of C turn counts) ys counts
    go (Err why) p line l e = let z : ◌≡◌ {A = ℕ} 0 1 = cc in absurd (omega arith)
    go (Ok _) p [] l e = let z : ◌≡◌ {A = ℕ} 0 1 = cc in absurd (omega arith)
    go (Ok _) p (x ∷ line) l e = accepted_there u C turn ys counts x line p l
