-- Records that were copied out of a lent list, changed and copied back. Assumes nothing.
use Rattle.std.proofs.Common.{Ok, Err, Some, None}
use Prim.Native.Nat.{ℕ, ◌+◌, ◌-◌, ◌*◌, ◌≤◌}
use mathlib.Core.Path.{◌≡◌, refl, ap, ◌∙◌, sym}
use mathlib.Core.Bool.{Bool, true, false, cond}
use mathlib.Core.List.{List, ◌++◌, append_assoc}
use native.Mathlib.Omega.{arith}
use lib.Dec.{leb}
use lib.ListN.{length, take, drop, set, replicate, length-append, length-set, take-append-drop}
use lib.Seq.{length-take-le, take-append-le, drop-append-le, take-append-add, take-take}
use borrow.Author.Tests.{leb-true, le-leb}
use Rattle.unit.specs.declared.FunctionUnit.{FunctionUnit}
use Rattle.unit.specs.Answers.{Answer}
use Rattle.unit.specs.Unit.{inside}
use Rattle.unit.proofs.Laws.{within, inside_of}
use Rattle.controller.specs.declared.Bank.{Bank}
use Rattle.queue.specs.declared.Waiting.{Waiting}
use Rattle.queue.specs.Passed.{Passed}
use Rattle.queue.specs.Line.{no_record, forward}
use Rattle.queue.specs.Calls.{count_then, list_then, oldest, passed_then}
use Rattle.queue.proofs.LineLaws.{forward_length}
use Rattle.callers.specs.declared.ArrivalOn.{ArrivalOn}
use Rattle.callers.specs.declared.UnitOn.{UnitOn}
use Rattle.callers.specs.Queues.{room, place_of, queue_of, with_queue, count_of, waiting_of}
use Rattle.callers.specs.Calls.{one_of, arrival_at, arrival_of, arrival_list, caller_of, passed_at, turned_by, unit_of, list_by, unit_list}
use Rattle.callers.specs.Parts.{arrival_in, arrival_on_by, unit_in, unit_on_by}
use Rattle.port.specs.Inner.{reach_of, loaded_of, stored_of}
use Rattle.callers.proofs.PartLaws.{drop_take, parts, queue_length}
use Rattle.callers.proofs.TestedLaws.{one_of_lem, arrival_accepted}
use Rattle.callers.proofs.SameLaws.{arrival_same, passed_same, started_there}

-- How many are copied

reach_cases : (i len : ℕ) (P : ℕ → Type 0) → (i ≤ 4 → room * i ≤ len → P (room * i)) → P 0 → P (reach_of i len)
reach_cases i len P x y = go (leb i 4) refl (leb (room * i) len) refl
  where
    go : (s : Bool) → leb i 4 ≡ s → (t : Bool) → leb (room * i) len ≡ t → P (cond s (cond t (room * i) 0) 0)
    go true e true f = x (leb-true i 4 e) (leb-true (room * i) len f)
    go true e false f = y
    go false e t f = y

pub reach_most : (i len : ℕ) → reach_of i len ≤ 32
reach_most i len = reach_cases i len (λ n. n ≤ 32) (λ h l. omega arith) (omega arith)

pub reach_there : (i len : ℕ) → reach_of i len ≤ len
reach_there i len = reach_cases i len (λ n. n ≤ len) (λ h l. l) (omega arith)

pub reach_all : (i len : ℕ) → i ≤ 4 → room * i ≤ len → reach_of i len ≡ room * i
reach_all i len h l = simp (le-leb i 4 h, le-leb (room * i) len l)

-- A queue that was copied

module _ (ys : List Waiting) (n : ℕ) (there : n ≤ length ys) where
  abbrev copy : List Waiting
  copy = loaded_of ys n

  copied : (m : ℕ) → m ≤ n → take m copy ≡ take m ys
  copied m h = take-append-le m (take n ys) (replicate (32 - n) no_record) (omega (arith, length-take-le n ys there)) ∙ take-take m n ys h

  pub loaded_queue : (i : ℕ) → place_of i + room ≤ n → queue_of copy i ≡ queue_of ys i
  loaded_queue i h = sym (drop_take (place_of i) room copy) ∙ ap (drop (place_of i)) (copied (place_of i + room) h) ∙ drop_take (place_of i) room ys

  -- nothing changed
  pub stored_own : stored_of ys copy n ≡ ys
  stored_own = ap (λ (l : List Waiting). l ++ drop n ys) (copied n (omega arith)) ∙ take-append-drop n ys

  -- a queue changed
  pub stored_with : (i : ℕ) (q : List Waiting) → place_of i + room ≤ n → length q ≡ room → stored_of ys (with_queue copy i q) n ≡ with_queue ys i q
  stored_with i q h l =
      let e = place_of i + room in
      let k = n - e in
      let fronts : take (place_of i) copy ≡ take (place_of i) ys = copied (place_of i) (omega arith) in
      let size : length (take (place_of i) copy ++ q) ≡ e =
      length-append (take (place_of i) copy) q ∙ omega (arith, l, ap length fronts, length-take-le (place_of i) ys (omega arith)) in
      let whole : n ≡ length (take (place_of i) copy ++ q) + k = omega (arith, size) in
      let up : e + k ≡ n = omega arith in
      ap (λ (m : ℕ). take m (take (place_of i) copy ++ q ++ drop e copy) ++ drop n ys) whole
      ∙ ap (λ (x : List Waiting). x ++ drop n ys) (take-append-add (take (place_of i) copy ++ q) (drop e copy) k)
      ∙ append_assoc (take (place_of i) copy ++ q) (take k (drop e copy)) (drop n ys)
      ∙ ap (λ (x : List Waiting). take (place_of i) copy ++ q ++ (x ++ drop n ys)) (sym (drop_take e k copy) ∙ ap (λ (m : ℕ). drop e (take m copy)) up ∙ ap (drop e) (copied n (omega arith)))
      ∙ ap (λ (x : List Waiting). take (place_of i) copy ++ q ++ x)
      (sym (drop-append-le e (take n ys) (drop n ys) (omega (arith, length-take-le n ys there))) ∙ ap (drop e) (take-append-drop n ys))
      ∙ ap (λ (x : List Waiting). x ++ q ++ drop e ys) fronts

-- An arrival

module _ (u : FunctionUnit) (C i : ℕ) (ys : List Waiting) (count : ℕ) (w : Waiting) where
  abbrev own : ℕ
  own = reach_of i (length ys)

  abbrev held : List Waiting
  held = loaded_of ys own

  same : one_of C i ≡ true → place_of i + room ≤ length ys → queue_of held i ≡ queue_of ys i
  same o l =
      let c = one_of_lem C i o in
      let e = reach_all i (length ys) (omega (arith, c.few, c.most)) (omega (arith, c.least)) in
      loaded_queue ys own (reach_there i (length ys)) i (omega (arith, e, c.least))

  found : arrival_in u C i (length ys) held count w.tag ≡ arrival_at u C i (queue_of ys i) count w
  found = arrival_same u C i held ys same count w

  stored : (a : Answer) → arrival_in u C i (length ys) held count w.tag ≡ a
      → stored_of ys (with_queue held i (list_then a (queue_of held i) count w)) own ≡ with_queue ys i (list_then a (queue_of ys i) count w)
  stored (Err why) e = ap (λ (l : List Waiting). stored_of ys l own) (parts held i) ∙ stored_own ys own (reach_there i (length ys)) ∙ sym (parts ys i)
  stored (Ok _) e =
      let a = arrival_accepted u C i (length ys) held count w.tag e in
      let c = one_of_lem C i a.caller in
      let n = reach_all i (length ys) (omega (arith, c.few, c.most)) (omega (arith, c.least, a.long)) in
      let q = same a.caller a.long in
      ap (λ (l : List Waiting). stored_of ys (with_queue held i (set l count w)) own) q
      ∙ stored_with ys own (reach_there i (length ys)) i (set (queue_of ys i) count w) (omega (arith, n, c.least))
      (length-set (queue_of ys i) count w ∙ queue_length ys i a.long)

  pub arrival_lent : (on : ArrivalOn) → on ≡ arrival_on_by i held count w (arrival_in u C i (length ys) held count w.tag)
      → (on.arrival ≡ arrival_of u C i ys count w) × (stored_of ys on.records.list own ≡ arrival_list u C i ys count w)
  unfolding arrival_of arrival_list
  arrival_lent on e = (
    ap (λ (x : ArrivalOn). x.arrival) e ∙ ap (λ (a : Answer). record { answer = a; count = count_then a count }) found,
    ap (λ (x : ArrivalOn). stored_of ys x.records.list own) e
        ∙ stored (arrival_in u C i (length ys) held count w.tag) refl
        ∙ ap (λ (a : Answer). with_queue ys i (list_then a (queue_of ys i) count w)) found,
  )

-- A time unit

module _ (u : FunctionUnit) (b : Bank) (C turn : ℕ) (ys : List Waiting) (counts : List ℕ) where
  abbrev all : ℕ
  all = reach_of C (length ys)

  abbrev whole : List Waiting
  whole = loaded_of ys all

  abbrev caller : ℕ
  caller = caller_of C turn counts

  alike : inside C 4 ≡ true → room * C ≤ length ys → (i : ℕ) → inside i C ≡ true → queue_of whole i ≡ queue_of ys i
  alike c l i h =
      let e = reach_all C (length ys) (within C 4 c).most l in
      loaded_queue ys all (reach_there C (length ys)) i (omega (arith, e, (within i C h).least, (within i C h).most))

  passes : passed_then (unit_in u C turn (length ys) whole counts) (oldest b (waiting_of whole counts caller)) ≡ passed_at u b C turn ys counts
  passes = passed_same u C turn whole ys counts alike b

  left : (a : Passed) → passed_at u b C turn ys counts ≡ a → stored_of ys (list_by whole counts caller a) all ≡ list_by ys counts caller a
  left (Ok None) e = ap (λ (l : List Waiting). stored_of ys l all) (parts whole caller) ∙ stored_own ys all (reach_there C (length ys)) ∙ sym (parts ys caller)
  left (Err why) e = ap (λ (l : List Waiting). stored_of ys l all) (parts whole caller) ∙ stored_own ys all (reach_there C (length ys)) ∙ sym (parts ys caller)
  left (Ok (Some w)) e =
      let d = started_there u b C turn ys counts w e in
      let n = reach_all C (length ys) d.caller.few d.long in
      ap (λ (l : List Waiting). stored_of ys (with_queue whole caller (forward l (count_of counts caller))) all)
      (alike d.four d.long caller (inside_of caller C d.caller.least d.caller.most))
      ∙ stored_with ys all (reach_there C (length ys)) caller (forward (queue_of ys caller) (count_of counts caller)) (omega (arith, n, d.caller.least, d.caller.most))
      (forward_length (queue_of ys caller) (count_of counts caller) (omega (arith, d.few, d.full)) d.some ∙ d.full)

  pub unit_lent : (on : UnitOn) → on ≡ unit_on_by u b C turn whole counts (unit_in u C turn (length ys) whole counts)
      → (on.turned ≡ unit_of u b C turn ys counts) × (stored_of ys on.records.list all ≡ unit_list u b C turn ys counts)
  unfolding unit_of unit_list
  unit_lent on e = (
    ap (λ (x : UnitOn). x.turned) e ∙ ap (turned_by u b C turn counts caller) passes,
    ap (λ (x : UnitOn). stored_of ys x.records.list all) e
        ∙ ap (λ (a : Passed). stored_of ys (list_by whole counts caller a) all) passes
        ∙ left (passed_at u b C turn ys counts) refl,
  )
