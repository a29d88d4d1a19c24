-- A record of a sheet that is written is read, and the reverse. Assumes nothing.
use Rattle.std.proofs.Common.{◌≡◌, ℕ, eqb, List, [], ◌∷◌, ◌++◌, length, Some, sym, refl, ap, ◌∙◌, subst, arith}
use Rattle.std.specs.Option.{option_map}
use Rattle.std.proofs.lemmas.Option.{cond_some, none-some, same_Some}
use Rattle.std.proofs.lemmas.List.{nil_from_length}
use Rattle.std.proofs.lemmas.Bool.{eqb-true}
use Rattle.refusal.specs.declared.Refusal.{Refusal}
use Rattle.refusal.specs.declared.Refusal.TheVariants as refusal
use Rattle.refusal.specs.Refusals.{refusal_number, refusals, refusal_of}
use Rattle.values.specs.Sizes.{challenge_size, response_size}
use Rattle.exchange.specs.declared.fit_out.Timer.{Timer}
use Rattle.exchange.specs.declared.fit_out.Timer.TheVariants as timer
use Rattle.exchange.specs.declared.outcome.Cause.{Cause}
use Rattle.exchange.specs.declared.outcome.Cause.TheVariants as cause
use Rattle.exchange.specs.declared.outcome.Report.{Report}
use Rattle.exchange.specs.declared.outcome.Report.TheVariants as report
use Rattle.exchange.specs.FitOut.{timer_number, timers, timer_of_number}
use Rattle.wire.specs.declared.codes.ErrorCode.{ErrorCode}
use Rattle.wire.specs.declared.codes.ErrorCode.TheVariants as error
use Rattle.wire.specs.declared.codes.Verdict.{Verdict}
use Rattle.wire.specs.declared.codes.Verdict.TheVariants as verdict
use Rattle.wire.specs.Codes.{error_number, error_codes, error_of, verdict_number, verdicts, verdict_of}
use Rattle.wire.specs.Fields.{Bytes, field, two}
use Rattle.wire.specs.FieldValues.{one, exact}
use Rattle.wire.proofs.Options.{bind_back, mapped_back, cond_back}
use Rattle.wire.proofs.ValueLemmas.{coded_back, one_back, exact_there, exact_back}
use Rattle.records.specs.declared.tags.SheetTag.{SheetTag}
use Rattle.records.specs.declared.tags.SheetTag.TheVariants as tag
use Rattle.records.specs.declared.tags.ReportKind.{ReportKind}
use Rattle.records.specs.declared.tags.ReportKind.TheVariants as kind
use Rattle.records.specs.declared.tags.CauseKind.{CauseKind}
use Rattle.records.specs.declared.tags.CauseKind.TheVariants as why
use Rattle.records.specs.Laws.{SheetReadsBack, SheetWritesBack}
use Rattle.records.specs.Numbers.{number}
use Rattle.records.specs.Parts.{◌>>=◌, parted, byte_first}
use Rattle.records.specs.Reports.{cause_kind, cause_number, cause_of, read_cause, report_kind, told_bytes, report_of, ReportSized}
use Rattle.records.specs.Sheet.{SheetEntry, sent, reported, refused, done, sheet_read_as, sheet_read, sheet_tag, sheet_value, sheet_bytes, SheetSized}
use Rattle.records.specs.Tags.{sheet_tag_number, sheet_tags, sheet_tag_of, report_kind_number, report_kinds, report_kind_of, cause_kind_number, cause_kinds, cause_kind_of}
use Rattle.records.proofs.PartLemmas.{parted_there, parted_back, two_back, byte_there, byte_back}
use Rattle.records.proofs.FrontLemmas.{front_there, front_back}

-- a record that is written is read

tag_there : (t : SheetTag) → sheet_tag_of (sheet_tag_number t) ≡ Some t
tag_there tag.Sent = refl
tag_there tag.Reported = refl
tag_there tag.Refused = refl
tag_there tag.Done = refl

kind_there : (k : ReportKind) → report_kind_of (report_kind_number k) ≡ Some k
kind_there kind.Challenge = refl
kind_there kind.Verdict = refl
kind_there kind.Failure = refl
kind_there kind.Response = refl

refusal_there : (r : Refusal) → refusal_of (refusal_number r) ≡ Some r
refusal_there refusal.ShortSheet = refl
refusal_there refusal.ClockBack = refl
refusal_there refusal.TimerDue = refl
refusal_there refusal.Misdialled = refl
refusal_there refusal.Garbled = refl
refusal_there refusal.Stray = refl
refusal_there refusal.Twice = refl
refusal_there refusal.Full = refl
refusal_there refusal.Spent = refl
refusal_there refusal.Misfitted = refl

verdict_there : (v : Verdict) → report_of kind.Verdict (verdict_number v ∷ []) ≡ Some (report.Verdict v)
verdict_there verdict.Correct = refl
verdict_there verdict.Incorrect = refl

error_there : (e : ErrorCode) → error_of (error_number e) ≡ Some e
error_there error.InvalidServedUserNr = refl
error_there error.ParamNotAvailable = refl
error_there error.TemporarilyUnavailable = refl
error_there error.NotAuthorized = refl
error_there error.Unspecified = refl

timer_there : (t : Timer) → timer_of_number (timer_number t) ≡ Some t
timer_there timer.T1 = refl
timer_there timer.T2 = refl
timer_there timer.T3 = refl
timer_there timer.T4 = refl
timer_there timer.T5 = refl
timer_there timer.Tr = refl

cause_there : (c : Cause) → read_cause (cause_kind_number (cause_kind c) ∷ cause_number c ∷ []) ≡ Some c
cause_there (cause.Error e) = ap (option_map cause.Error) (error_there e)
cause_there (cause.Reject problem) = refl
cause_there (cause.Expiry t) = ap (option_map cause.Expiry) (timer_there t)

report_there : (r : Report) → ReportSized r → report_of (report_kind r) (told_bytes r) ≡ Some r
report_there (report.Challenge challenge) z = ap (option_map report.Challenge) (exact_there challenge_size challenge z)
report_there (report.Verdict v) z = verdict_there v
report_there (report.Failure c) z = ap (option_map report.Failure) (cause_there c)
report_there (report.Response response) z = ap (option_map report.Response) (exact_there response_size response z)

value_there : (e : SheetEntry) → SheetSized e → sheet_read_as (sheet_tag e) (sheet_value e) ≡ Some e
value_there (sent peer apdu) z = λ t. byte_there peer apdu t >>= λ p. Some (sent p.byte p.rest)
value_there (reported name r) z =
    let k : ReportKind = report_kind r in
    let same : number (two name.0) ≡ name.0 = omega arith in
    (λ t. byte_there (report_kind_number k) (two name.0 ++ told_bytes r) t >>= λ f. parted 2 f.rest >>= λ n. report_kind_of f.byte >>= λ j. report_of j n.rest >>= λ x. Some (reported (record { 0 = number n.first }) x))
    ∙ (λ t. parted_there 2 (two name.0) (told_bytes r) refl t >>= λ n. report_kind_of (report_kind_number k) >>= λ j. report_of j n.rest >>= λ x. Some (reported (record { 0 = number n.first }) x))
    ∙ (λ t. kind_there k t >>= λ j. report_of j (told_bytes r) >>= λ x. Some (reported (record { 0 = same t }) x))
    ∙ (λ t. report_there r z t >>= λ x. Some (reported name x))
value_there (refused r) z = ap (option_map refused) (refusal_there r)
value_there done z = refl

pub sheet_reads_back : SheetReadsBack
sheet_reads_back e rest z = front_there sheet_read _ (sheet_value e) rest e ((λ t. tag_there (sheet_tag e) t >>= λ k. sheet_read_as k (sheet_value e)) ∙ value_there e z)

-- a record that is read is written as the same bytes

cause_of_back : (k : CauseKind) (n : ℕ) (c : Cause) → cause_of k n ≡ Some c → (cause_kind c ≡ k) × (cause_number c ≡ n)
cause_of_back why.Error n c h = let m = mapped_back cause.Error (error_of n) c h in subst (λ (x : Cause). (cause_kind x ≡ why.Error) × (cause_number x ≡ n)) m.1.1 (refl, coded_back error_number error_codes n m.0 m.1.0)
cause_of_back why.Reject n c h = subst (λ (x : Cause). (cause_kind x ≡ why.Reject) × (cause_number x ≡ n)) (same_Some _ c h) (refl, refl)
cause_of_back why.Expiry n c h = let m = mapped_back cause.Expiry (timer_of_number n) c h in subst (λ (x : Cause). (cause_kind x ≡ why.Expiry) × (cause_number x ≡ n)) m.1.1 (refl, coded_back timer_number timers n m.0 m.1.0)

cause_back : (v : List ℕ) (c : Cause) → read_cause v ≡ Some c → cause_kind_number (cause_kind c) ∷ cause_number c ∷ [] ≡ v
cause_back [] c h = absurd (none-some c h)
cause_back (x ∷ []) c h = absurd (none-some c h)
cause_back (x ∷ y ∷ []) c h =
    let p = bind_back (cause_kind_of x) (λ k. cause_of k y) c h in
    let b = cause_of_back p.0 y c p.1.1 in
    let kind_is : cause_kind_number (cause_kind c) ≡ x = ap cause_kind_number b.0 ∙ coded_back cause_kind_number cause_kinds x p.0 p.1.0 in
    λ i. kind_is i ∷ b.1 i ∷ []
cause_back (x ∷ y ∷ z ∷ v) c h = let l : length (x ∷ y ∷ z ∷ v) ≡ 2 = eqb-true _ _ (cond_back _ _ c h).0 in absurd (omega arith)

-- what is told was read as a report
record Reads (k : ReportKind) (v : List ℕ) (r : Report) : Type 0 where
  kind : report_kind r ≡ k
  value : told_bytes r ≡ v
  sized : ReportSized r

report_back : (k : ReportKind) (v : List ℕ) (r : Report) → report_of k v ≡ Some r → Reads k v r
report_back kind.Challenge v r h =
    let m = mapped_back report.Challenge (exact 8 v) r h in
    let x = exact_back 8 v m.0 m.1.0 in
    subst (Reads kind.Challenge v) m.1.1 (record { kind = refl; value = x.0; sized = x.1 })
report_back kind.Verdict v r h =
    let m = mapped_back report.Verdict (one v >>= verdict_of) r h in
    let b = bind_back (one v) verdict_of m.0 m.1.0 in
    let n : verdict_number m.0 ≡ b.0 = coded_back verdict_number verdicts b.0 m.0 b.1.1 in
    subst (Reads kind.Verdict v) m.1.1 (record { kind = refl; value = (λ i. n i ∷ []) ∙ one_back v b.0 b.1.0; sized = tt })
report_back kind.Failure v r h =
    let m = mapped_back report.Failure (read_cause v) r h in
    subst (Reads kind.Failure v) m.1.1 (record { kind = refl; value = cause_back v m.0 m.1.0; sized = tt })
report_back kind.Response v r h =
    let m = mapped_back report.Response (exact 4 v) r h in
    let x = exact_back 4 v m.0 m.1.0 in
    subst (Reads kind.Response v) m.1.1 (record { kind = refl; value = x.0; sized = x.1 })

-- what a value with a tag was read as
record Says (t : SheetTag) (v : List ℕ) (e : SheetEntry) : Type 0 where
  tag : sheet_tag e ≡ t
  value : sheet_value e ≡ v
  sized : SheetSized e

says : (t : SheetTag) (v : List ℕ) (e : SheetEntry) → Bytes v → sheet_read_as t v ≡ Some e → Says t v e
says tag.Sent v e all h =
    let p = bind_back (byte_first v) _ e h in
    let peer = byte_back v p.0 all p.1.0 in
    subst (Says tag.Sent v) (same_Some _ e p.1.1) (record { tag = refl; value = peer.whole; sized = tt })
says tag.Reported v e all h =
    let p = bind_back (byte_first v) _ e h in
    let first = byte_back v p.0 all p.1.0 in
    let q = bind_back (parted 2 p.0.rest) _ e p.1.1 in
    let name = parted_back 2 p.0.rest q.0 first.rest q.1.0 in
    let k = bind_back (report_kind_of p.0.byte) _ e q.1.1 in
    let r = bind_back (report_of k.0 q.0.rest) _ e k.1.1 in
    let b = report_back k.0 q.0.rest r.0 r.1.0 in
    let kind_is : report_kind_number (report_kind r.0) ≡ p.0.byte = ap report_kind_number b.kind ∙ coded_back report_kind_number report_kinds p.0.byte k.0 k.1.0 in
    let whole : report_kind_number (report_kind r.0) ∷ (two (number q.0.first) ++ told_bytes r.0) ≡ v =
    (λ i. kind_is i ∷ (two_back q.0.first name.first name.size i ++ b.value i)) ∙ ap (λ (xs : List ℕ). p.0.byte ∷ xs) name.whole ∙ first.whole in
    subst (Says tag.Reported v) (same_Some _ e r.1.1) (record { tag = refl; value = whole; sized = b.sized })
says tag.Refused v e all h =
    let m = mapped_back refused (one v >>= refusal_of) e h in
    let b = bind_back (one v) refusal_of m.0 m.1.0 in
    let n : refusal_number m.0 ≡ b.0 = coded_back refusal_number refusals b.0 m.0 b.1.1 in
    subst (Says tag.Refused v) m.1.1 (record { tag = refl; value = (λ i. n i ∷ []) ∙ one_back v b.0 b.1.0; sized = tt })
says tag.Done v e all h =
    let c = cond_some (eqb (length v) 0) done e h in
    subst (Says tag.Done v) c.1 (record { tag = refl; value = sym (nil_from_length v (eqb-true _ _ c.0)); sized = tt })

pub sheet_writes_back : SheetWritesBack
sheet_writes_back =
    front_back sheet_read sheet_bytes SheetSized λ t v e all h.
    let p = bind_back (sheet_tag_of t) (λ k. sheet_read_as k v) e h in
    let b = says p.0 v e all p.1.1 in
    ((λ i. field (sheet_tag_number (b.tag i)) (b.value i)) ∙ ap (λ (n : ℕ). field n v) (coded_back sheet_tag_number sheet_tags t p.0 p.1.0), b.sized)
