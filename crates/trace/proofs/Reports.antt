-- The report: what is told of an output that is too short, of a trace that is too long, and of a run.
-- Assumes nothing.
use Rattle.std.specs.Prelude.{None}
use Prim.Native.Nat.{ℕ, ◌+◌, ◌≤◌, ◌<◌}
use mathlib.Core.Path.{◌≡◌, refl, sym, ap, subst, ◌∙◌}
use mathlib.Core.List.{List, [], ◌++◌, append_assoc}
use mathlib.Core.Logic.{⊎_elim}
use native.Mathlib.Omega.{arith}
use lib.ListN.{length, take, drop, length-append, take-append-drop}
use lib.Seq.{drop-append-le, length-take-le}
use borrow.Author.Tests.{lt-ltb, le-ltb}
use Rattle.rules.specs.Limits.{Limits, box}
use Rattle.rules.specs.Table.{empty_store}
use Rattle.rules.specs.Columns.{used, filled}
use Rattle.rules.proofs.Columns.{used_filled}
use Rattle.store.specs.Columns.{columns_of, store_of}
use Rattle.store.specs.declared.PublicationStore.{PublicationStore}
use Rattle.writing.specs.Written.{over, over_from}
use Rattle.writing.proofs.Written.{over_length, over_after}
use Rattle.trace.specs.Run.{run_sound, laid}
use Rattle.trace.specs.Report.{Report, longest, report_room, line_room, stop_line, empty_run, told, report_of, report}
use Rattle.trace.specs.Embedding.{stop_number, ComesTo, ReportedAs, Tells, Counts}
use Rattle.trace.specs.declared.Stop.TheVariants.{TooLong, NoRoom}
use Rattle.trace.specs.declared.Stopped.{Stopped}
use Rattle.trace.specs.declared.Reported.{Reported}
use Rattle.trace.proofs.Turns.{reaches}
use Rattle.trace.proofs.Counting.{over_counts}
use Rattle.trace.proofs.Stops.{within_sound}
use Rattle.trace.proofs.StopLine.{stop_line_fits}

-- which of the three it is

module _ (L : Limits) (room : ℕ) (trace : List ℕ) where
  pub report_refused : room < report_room + line_room → report L room trace ≡ record { stop = 12; text = [] }
  unfolding report
  report_refused h = rw (lt-ltb room (report_room + line_room) h)

  module _ (h : report_room + line_room ≤ room) where
    pub report_long : longest < length trace → report L room trace ≡ record { stop = 7; text = stop_line 7 }
    unfolding report report_of
    report_long k = rw (le-ltb room (report_room + line_room) h, lt-ltb longest (length trace) k)

    pub report_ran : length trace ≤ longest → report L room trace ≡ told (empty_run L trace)
    unfolding report report_of
    report_ran k = rw (le-ltb room (report_room + line_room) h, le-ltb longest (length trace) k)

-- a run from an empty store keeps within its room

pub run_fits : (L : Limits) (trace : List ℕ) → length (empty_run L trace).done.text ≤ report_room
run_fits L trace = (within_sound L report_room trace (filled L (empty_store None)) (empty_store None)).written

-- a report keeps within its output
pub report_fits : (L : Limits) (room : ℕ) (trace : List ℕ) → length (report L room trace).text ≤ room
report_fits L room trace =
    ⊎_elim
    (λ h. ⊎_elim (λ k. rw (report_ran L room trace h k) (omega (arith, run_fits L trace, stop_line_fits (empty_run L trace).stop, length-append (empty_run L trace).done.text (stop_line (empty_run L trace).stop)))) (λ k. rw (report_long L room trace h k) (omega (arith, stop_line_fits 7))) (reaches (length trace) longest))
    (λ h. rw (report_refused L room trace h) (omega arith))
    (reaches (report_room + line_room) room)

-- a text written into the first n bytes of an output, and the bytes after them
over_part : (n : ℕ) (w out : List ℕ) → length w ≤ n → n ≤ length out → over w (take n out) ++ drop n out ≡ over w out
over_part n w out h l =
    let m = length-take-le n out l in
    rw append_assoc (ap (λ (ys : List ℕ). w ++ ys) (sym (drop-append-le (length w) (take n out) (drop n out) (omega arith)) ∙ ap (drop (length w)) (take-append-drop n out)))

-- the same of what the code has: out and a trace came in; what is answered, and what is in the output

module _ (trace out : List ℕ) where
  abbrev Met : Reported → List ℕ → Type 0
  Met r xs = Tells (report box (length out) trace) r out xs × Counts r.written xs

  met : (w : Report) → report box (length out) trace ≡ w → (r : Reported) (xs : List ℕ) → ReportedAs w r → xs ≡ over w.text out → Met r xs
  met w e r xs p q =
      let f : length w.text ≤ length out = subst (λ (v : Report). length v.text ≤ length out) e (report_fits box (length out) trace) in
      (rw e (p, q), rw p.written (over_counts w.text out xs q f))

  pub refuses : length out < report_room + line_room → Met (record { stop = NoRoom; written = 0 }) out
  refuses h = met _ (report_refused box (length out) trace h) _ _ (record { stop = refl; written = refl }) refl

  module _ (h : report_room + line_room ≤ length out) where
    pub tells_long : longest < length trace → (m : ℕ) → m ≡ stop_number TooLong → (n : ℕ) (xs : List ℕ) → (n ≡ length (stop_line m)) × (xs ≡ over (stop_line m) out)
        → Met (record { stop = TooLong; written = n }) xs
    tells_long k m z n xs p =
        let q = rw z at p in
        met _ (report_long box (length out) trace h k) _ _ (record { stop = refl; written = q.0 }) q.1

    module _ (store : PublicationStore) (e : store ≡ store_of (filled box (empty_store None))) where
      -- the first bytes of the output are lent to the run, which leaves them as ys
      module _ (r : Stopped) (ys : List ℕ)
          (p : ComesTo (laid box (run_sound box (length (take report_room out)) trace (used (columns_of store)))) r (take report_room out) ys) where
        abbrev xs : List ℕ
        xs = ys ++ drop report_room out

        same_run : run_sound box (length (take report_room out)) trace (used (columns_of store)) ≡ empty_run box trace
        same_run = rw (length-take-le report_room out (omega arith), e, used_filled box (empty_store None) refl refl)

        lent : ComesTo (laid box (empty_run box trace)) r (take report_room out) ys
        lent = rw same_run at p

        ran : ComesTo (laid box (empty_run box trace)) r out xs
        ran = (lent.0, rw lent.1 (over_part report_room (empty_run box trace).done.text out (run_fits box trace) (omega arith)))

        pub line_has_room : r.written + line_room ≤ length xs
        line_has_room =
            let f = run_fits box trace in
            let l = ap length ran.1 ∙ over_length (empty_run box trace).done.text out (omega (arith, h)) in
            omega (arith, ran.0.written, h)

        pub tells_run : length trace ≤ longest → (m : ℕ) → m ≡ stop_number r.stop
            → (n : ℕ) (zs : List ℕ) → (n ≡ r.written + length (stop_line m)) × (zs ≡ over_from r.written (stop_line m) xs)
            → Met (record { stop = r.stop; written = n }) zs
        tells_run k m z n zs q =
            let w = empty_run box trace in
            let s : m ≡ w.stop = z ∙ ran.0.stop in
            let l : n ≡ length (w.done.text ++ stop_line w.stop) = q.0 ∙ rw (ran.0.written, s) (sym (length-append w.done.text (stop_line w.stop))) in
            let o : zs ≡ over (w.done.text ++ stop_line w.stop) out = q.1 ∙ rw (ran.0.written, s, ran.1) (over_after w.done.text (stop_line w.stop) out) in
            met _ (report_ran box (length out) trace h k) _ _ (record { stop = ran.0.stop; written = l }) o
