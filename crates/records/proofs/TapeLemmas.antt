-- A record of a tape that is written is read, and the reverse. Assumes nothing.
use Rattle.std.proofs.Common.{◌≡◌, ℕ, ◌+◌, ◌≤◌, if◌then◌else◌, ◌==◌, Bool, true, false, eqb, List, [], ◌∷◌, ◌++◌, length, take, drop, get_or, Some, None, sym, refl, ap, ◌∙◌, subst, ⊎_elim, arith, drop-cons, length-drop}
use Rattle.std.specs.Option.{option_map}
use Rattle.std.proofs.lemmas.Option.{cond_some, none-some, same_Some}
use Rattle.std.proofs.lemmas.List.{take-append-drop, drop-drop, length-take-le, nil_from_length}
use Rattle.std.proofs.lemmas.Bool.{cases_Bool, eq-eqb, eqb-true}
use Rattle.exchange.specs.declared.fit_out.FitOut.{FitOut}
use Rattle.wire.specs.Fields.{Bytes, field, two}
use Rattle.wire.proofs.FieldLemmas.{bytes_behind}
use Rattle.wire.proofs.Options.{cond_back, bind_back, mapped_back}
use Rattle.wire.proofs.ValueLemmas.{coded_back}
use Rattle.records.specs.declared.tags.TapeTag.{TapeTag}
use Rattle.records.specs.declared.tags.TapeTag.TheVariants as tag
use Rattle.records.specs.Laws.{TapeReadsBack, TapeWritesBack}
use Rattle.records.specs.Numbers.{number, in_bytes}
use Rattle.records.specs.Parts.{◌>>=◌, parted, byte_first}
use Rattle.records.specs.Tags.{tape_tag_number, tape_tags, tape_tag_of}
use Rattle.records.specs.Tape.{InitiationEntry, TapeEntry, fit_out, link, subscriber, plain_initiation, initiation_with_values, visitor_start, network_proof, reply, delivery, clock, four_at, bit_of, bit, fit_out_in, fit_out_bytes, initiation_bytes, read_fit_out, read_initiation, tape_read_as, tape_read, tape_tag, tape_value, tape_bytes, TapeSized, IsBelow}
use Rattle.records.proofs.NumberLemmas.{length_in_bytes, number_there, number_back, number_below}
use Rattle.records.proofs.PartLemmas.{bytes_before, parted_there, parted_back, number_first, number_whole, number_fits, two_back, byte_there, byte_back}
use Rattle.records.proofs.FrontLemmas.{front_there, front_back}

-- a record that is written is read

tag_there : (t : TapeTag) → tape_tag_of (tape_tag_number t) ≡ Some t
tag_there tag.FitOut = refl
tag_there tag.Link = refl
tag_there tag.Subscriber = refl
tag_there tag.PlainInitiation = refl
tag_there tag.InitiationWithValues = refl
tag_there tag.VisitorStart = refl
tag_there tag.NetworkProof = refl
tag_there tag.Reply = refl
tag_there tag.Delivery = refl
tag_there tag.Clock = refl

bit_there : (b : Bool) → bit_of (bit b) ≡ Some b
bit_there false = refl
bit_there true = refl

fit_out_there : (f : FitOut) → TapeSized (fit_out f) → read_fit_out (fit_out_bytes f) ≡ Some f
unfolding in_bytes
fit_out_there f z = ap (option_map (fit_out_in (fit_out_bytes f))) (bit_there f.can_compute) ∙ (λ i. Some (record {
  t1 = number_there 4 f.t1 z.0 i;
  t2 = number_there 4 f.t2 z.1.0 i;
  t3 = number_there 4 f.t3 z.1.1.0 i;
  t4 = number_there 4 f.t4 z.1.1.1.0 i;
  t5 = number_there 4 f.t5 z.1.1.1.1.0 i;
  tr = number_there 4 f.tr z.1.1.1.1.1.0 i;
  home = f.home;
  server = f.server;
  can_compute = f.can_compute;
}))

initiation_there : (i : InitiationEntry) → IsBelow 8 i.reading → read_initiation (initiation_bytes i) ≡ Some i
initiation_there i z =
    (λ t. number_first 8 i.reading (i.peer ∷ i.digits) t >>= λ reading. byte_first reading.rest >>= λ peer. Some (record { reading = number reading.first; peer = peer.byte; digits = peer.rest }))
    ∙ (λ t. byte_there i.peer i.digits t >>= λ peer. Some (record { reading = number (in_bytes 8 i.reading); peer = peer.byte; digits = peer.rest }))
    ∙ ap (λ (n : ℕ). Some (record { reading = n; peer = i.peer; digits = i.digits })) (number_there 8 i.reading z)

value_there : (e : TapeEntry) → TapeSized e → tape_read_as (tape_tag e) (tape_value e) ≡ Some e
value_there (fit_out f) z = ap (option_map fit_out) (fit_out_there f z)
value_there (link peer) z = refl
value_there (subscriber place key digits) z =
    (λ t. byte_there place (key ++ digits) t >>= λ p. parted 16 p.rest >>= λ k. Some (subscriber p.byte k.first k.rest))
    ∙ (λ t. parted_there 16 key digits z t >>= λ k. Some (subscriber place k.first k.rest))
value_there (plain_initiation i) z = ap (option_map plain_initiation) (initiation_there i z)
value_there (initiation_with_values i) z = ap (option_map initiation_with_values) (initiation_there i z)
value_there (visitor_start reading digits) z =
    (λ t. number_first 8 reading digits t >>= λ r. Some (visitor_start (number r.first) r.rest))
    ∙ ap (λ (n : ℕ). Some (visitor_start n digits)) (number_there 8 reading z)
value_there (network_proof reading challenge digits) z =
    (λ t. number_first 8 reading (challenge ++ digits) t >>= λ r. parted 8 r.rest >>= λ c. Some (network_proof (number r.first) c.first c.rest))
    ∙ (λ t. parted_there 8 challenge digits z.1 t >>= λ c. Some (network_proof (number (in_bytes 8 reading)) c.first c.rest))
    ∙ ap (λ (n : ℕ). Some (network_proof n challenge digits)) (number_there 8 reading z.0)
value_there (reply reading name response) z =
    let same : number (two name.0) ≡ name.0 = omega arith in
    let four : eqb (length response) 4 ≡ true = eq-eqb _ _ z.1 in
    (λ t. number_first 8 reading (two name.0 ++ response) t >>= λ r. parted 2 r.rest >>= λ n. if length n.rest == 4 then Some (reply (number r.first) (record { 0 = number n.first }) n.rest) else None)
    ∙ (λ t. parted_there 2 (two name.0) response refl t >>= λ n. if length n.rest == 4 then Some (reply (number (in_bytes 8 reading)) (record { 0 = number n.first }) n.rest) else None)
    ∙ (λ t. if four t then Some (reply (number (in_bytes 8 reading)) (record { 0 = same t }) response) else None)
    ∙ ap (λ (n : ℕ). Some (reply n name response)) (number_there 8 reading z.0)
value_there (delivery reading draw peer bytes) z =
    (λ t. number_first 8 reading (draw ++ (peer ∷ bytes)) t >>= λ r. parted 16 r.rest >>= λ d. byte_first d.rest >>= λ p. Some (delivery (number r.first) d.first p.byte p.rest))
    ∙ (λ t. parted_there 16 draw (peer ∷ bytes) z.1 t >>= λ d. byte_first d.rest >>= λ p. Some (delivery (number (in_bytes 8 reading)) d.first p.byte p.rest))
    ∙ (λ t. byte_there peer bytes t >>= λ p. Some (delivery (number (in_bytes 8 reading)) draw p.byte p.rest))
    ∙ ap (λ (n : ℕ). Some (delivery n draw peer bytes)) (number_there 8 reading z.0)
value_there (clock reading) z =
    let eight : eqb (length (in_bytes 8 reading)) 8 ≡ true = eq-eqb _ _ (length_in_bytes 8 reading) in
    (λ t. if eight t then Some (clock (number (in_bytes 8 reading))) else None) ∙ ap (λ (n : ℕ). Some (clock n)) (number_there 8 reading z)

pub tape_reads_back : TapeReadsBack
tape_reads_back e rest z = front_there tape_read _ (tape_value e) rest e ((λ t. tag_there (tape_tag e) t >>= λ k. tape_read_as k (tape_value e)) ∙ value_there e z)

-- a record that is read is written as the same bytes

-- what a value with a tag was read as
record Told (t : TapeTag) (v : List ℕ) (e : TapeEntry) : Type 0 where
  tag : tape_tag e ≡ t
  value : tape_value e ≡ v
  sized : TapeSized e

bit_back : (n : ℕ) (b : Bool) → bit_of n ≡ Some b → bit b ≡ n
bit_back n b h =
    ⊎_elim
    (λ y. ap bit (sym (same_Some false b (rw y at h))) ∙ sym (eqb-true n 0 y))
    (λ y. let p = cond_some (eqb n 1) true b (rw y at h) in ap bit (sym p.1) ∙ sym (eqb-true n 1 p.0))
    (cases_Bool (eqb n 0))

bytes_from : (at : ℕ) (v : List ℕ) → Bytes v → Bytes (drop at v)
bytes_from at v all = bytes_behind (take at v) (drop at v) (subst Bytes (sym (take-append-drop at v)) all)

-- four bytes from a place on
record Four (at : ℕ) (v : List ℕ) : Type 0 where
  back : in_bytes 4 (four_at at v) ++ drop (at + 4) v ≡ drop at v
  below : IsBelow 4 (four_at at v)

four_back : (at : ℕ) (v : List ℕ) → Bytes v → at + 4 ≤ length v → Four at v
four_back at v all long =
    let rest : List ℕ = drop at v in
    let many : 4 ≤ length rest = omega (arith, length-drop at v) in
    let size : length (take 4 rest) ≡ 4 = length-take-le 4 rest many in
    let bytes : Bytes (take 4 rest) = bytes_before (take 4 rest) (drop 4 rest) (subst Bytes (sym (take-append-drop 4 rest)) (bytes_from at v all)) in
    record {
      back = (λ t. number_back 4 (take 4 rest) bytes size t ++ drop (at + 4) v) ∙ ap (λ (xs : List ℕ). take 4 rest ++ xs) (sym (drop-drop 4 at v)) ∙ take-append-drop 4 rest;
      below = number_below 4 (take 4 rest) bytes size;
    }

-- the last three bytes of a fit-out
last_three : (v : List ℕ) (can : Bool) → length v ≡ 27 → bit can ≡ get_or v 26 0 → get_or v 24 0 ∷ get_or v 25 0 ∷ bit can ∷ [] ≡ drop 24 v
last_three v can size is =
    let none : drop 27 v ≡ [] = nil_from_length (drop 27 v) (omega (arith, length-drop 27 v)) in
    let home : drop 24 v ≡ get_or v 24 0 ∷ drop 25 v = drop-cons v 24 0 (omega arith) in
    let server : drop 25 v ≡ get_or v 25 0 ∷ drop 26 v = drop-cons v 25 0 (omega arith) in
    let can_is : drop 26 v ≡ get_or v 26 0 ∷ drop 27 v = drop-cons v 26 0 (omega arith) in
    sym (home ∙ ap (λ (xs : List ℕ). get_or v 24 0 ∷ xs) (server ∙ ap (λ (xs : List ℕ). get_or v 25 0 ∷ xs) (can_is ∙ (λ t. sym is t ∷ none t))))

fit_out_back : (v : List ℕ) (f : FitOut) → Bytes v → read_fit_out v ≡ Some f → (fit_out_bytes f ≡ v) × TapeSized (fit_out f)
fit_out_back v f all h =
    let c = cond_back (eqb (length v) 27) (option_map (fit_out_in v) (bit_of (get_or v 26 0))) f h in
    let size : length v ≡ 27 = eqb-true _ _ c.0 in
    let m = mapped_back (fit_out_in v) (bit_of (get_or v 26 0)) f c.1 in
    let t1 = four_back 0 v all (omega arith) in
    let t2 = four_back 4 v all (omega arith) in
    let t3 = four_back 8 v all (omega arith) in
    let t4 = four_back 12 v all (omega arith) in
    let t5 = four_back 16 v all (omega arith) in
    let tr = four_back 20 v all (omega arith) in
    let behind : List ℕ → ℕ → List ℕ = λ xs at. in_bytes 4 (four_at at v) ++ xs in
    let last = last_three v m.0 size (bit_back _ m.0 m.1.0) in
    let whole : fit_out_bytes (fit_out_in v m.0) ≡ v =
    ap (λ (xs : List ℕ). behind (behind (behind (behind (behind (behind xs 20) 16) 12) 8) 4) 0) last
    ∙ ap (λ (xs : List ℕ). behind (behind (behind (behind (behind xs 16) 12) 8) 4) 0) tr.back
    ∙ ap (λ (xs : List ℕ). behind (behind (behind (behind xs 12) 8) 4) 0) t5.back
    ∙ ap (λ (xs : List ℕ). behind (behind (behind xs 8) 4) 0) t4.back
    ∙ ap (λ (xs : List ℕ). behind (behind xs 4) 0) t3.back
    ∙ ap (λ (xs : List ℕ). behind xs 0) t2.back
    ∙ t1.back in
    subst (λ (x : FitOut). (fit_out_bytes x ≡ v) × TapeSized (fit_out x)) m.1.1 (whole, (t1.below, (t2.below, (t3.below, (t4.below, (t5.below, (tr.below, tt)))))))

link_back : (v : List ℕ) (e : TapeEntry) → tape_read_as tag.Link v ≡ Some e → Told tag.Link v e
link_back [] e h = absurd (none-some e h)
link_back (x ∷ []) e h = subst (Told tag.Link (x ∷ [])) (same_Some _ e h) (record { tag = refl; value = refl; sized = tt })
link_back (x ∷ y ∷ v) e h = let l : length (x ∷ y ∷ v) ≡ 1 = eqb-true _ _ (cond_some _ _ e h).0 in absurd (omega arith)

initiation_back : (v : List ℕ) (i : InitiationEntry) → Bytes v → read_initiation v ≡ Some i → (initiation_bytes i ≡ v) × IsBelow 8 i.reading
initiation_back v i all h =
    let p = bind_back (parted 8 v) _ i h in
    let r = parted_back 8 v p.0 all p.1.0 in
    let q = bind_back (byte_first p.0.rest) _ i p.1.1 in
    let b = byte_back p.0.rest q.0 r.rest q.1.0 in
    subst (λ (x : InitiationEntry). (initiation_bytes x ≡ v) × IsBelow 8 x.reading) (same_Some _ i q.1.1)
    (ap (λ (rest : List ℕ). in_bytes 8 (number p.0.first) ++ rest) b.whole ∙ number_whole 8 v p.0 r, number_fits 8 v p.0 r)

told : (t : TapeTag) (v : List ℕ) (e : TapeEntry) → Bytes v → tape_read_as t v ≡ Some e → Told t v e
told tag.FitOut v e all h =
    let m = mapped_back fit_out (read_fit_out v) e h in
    let b = fit_out_back v m.0 all m.1.0 in
    subst (Told tag.FitOut v) m.1.1 (record { tag = refl; value = b.0; sized = b.1 })
told tag.Link v e all h = link_back v e h
told tag.Subscriber v e all h =
    let p = bind_back (byte_first v) _ e h in
    let place = byte_back v p.0 all p.1.0 in
    let q = bind_back (parted 16 p.0.rest) _ e p.1.1 in
    let key = parted_back 16 p.0.rest q.0 place.rest q.1.0 in
    subst (Told tag.Subscriber v) (same_Some _ e q.1.1)
    (record { tag = refl; value = ap (λ (xs : List ℕ). p.0.byte ∷ xs) key.whole ∙ place.whole; sized = key.size })
told tag.PlainInitiation v e all h =
    let m = mapped_back plain_initiation (read_initiation v) e h in
    let b = initiation_back v m.0 all m.1.0 in
    subst (Told tag.PlainInitiation v) m.1.1 (record { tag = refl; value = b.0; sized = b.1 })
told tag.InitiationWithValues v e all h =
    let m = mapped_back initiation_with_values (read_initiation v) e h in
    let b = initiation_back v m.0 all m.1.0 in
    subst (Told tag.InitiationWithValues v) m.1.1 (record { tag = refl; value = b.0; sized = b.1 })
told tag.VisitorStart v e all h =
    let p = bind_back (parted 8 v) _ e h in
    let r = parted_back 8 v p.0 all p.1.0 in
    subst (Told tag.VisitorStart v) (same_Some _ e p.1.1) (record { tag = refl; value = number_whole 8 v p.0 r; sized = number_fits 8 v p.0 r })
told tag.NetworkProof v e all h =
    let p = bind_back (parted 8 v) _ e h in
    let reading = parted_back 8 v p.0 all p.1.0 in
    let q = bind_back (parted 8 p.0.rest) _ e p.1.1 in
    let challenge = parted_back 8 p.0.rest q.0 reading.rest q.1.0 in
    subst (Told tag.NetworkProof v) (same_Some _ e q.1.1)
    (record {
      tag = refl;
      value = ap (λ (xs : List ℕ). in_bytes 8 (number p.0.first) ++ xs) challenge.whole ∙ number_whole 8 v p.0 reading;
      sized = (number_fits 8 v p.0 reading, challenge.size);
    })
told tag.Reply v e all h =
    let p = bind_back (parted 8 v) _ e h in
    let reading = parted_back 8 v p.0 all p.1.0 in
    let q = bind_back (parted 2 p.0.rest) _ e p.1.1 in
    let name = parted_back 2 p.0.rest q.0 reading.rest q.1.0 in
    let c = cond_some (eqb (length q.0.rest) 4) _ e q.1.1 in
    let name_whole : two (number q.0.first) ++ q.0.rest ≡ p.0.rest = ap (λ (xs : List ℕ). xs ++ q.0.rest) (two_back q.0.first name.first name.size) ∙ name.whole in
    subst (Told tag.Reply v) c.1
    (record {
      tag = refl;
      value = ap (λ (xs : List ℕ). in_bytes 8 (number p.0.first) ++ xs) name_whole ∙ number_whole 8 v p.0 reading;
      sized = (number_fits 8 v p.0 reading, eqb-true _ _ c.0);
    })
told tag.Delivery v e all h =
    let p = bind_back (parted 8 v) _ e h in
    let reading = parted_back 8 v p.0 all p.1.0 in
    let q = bind_back (parted 16 p.0.rest) _ e p.1.1 in
    let draw = parted_back 16 p.0.rest q.0 reading.rest q.1.0 in
    let r = bind_back (byte_first q.0.rest) _ e q.1.1 in
    let peer = byte_back q.0.rest r.0 draw.rest r.1.0 in
    subst (Told tag.Delivery v) (same_Some _ e r.1.1)
    (record {
      tag = refl;
      value = ap (λ (xs : List ℕ). in_bytes 8 (number p.0.first) ++ (q.0.first ++ xs)) peer.whole ∙ ap (λ (xs : List ℕ). in_bytes 8 (number p.0.first) ++ xs) draw.whole ∙ number_whole 8 v p.0 reading;
      sized = (number_fits 8 v p.0 reading, draw.size);
    })
told tag.Clock v e all h =
    let c = cond_some (eqb (length v) 8) (clock (number v)) e h in
    let size : length v ≡ 8 = eqb-true _ _ c.0 in
    subst (Told tag.Clock v) c.1 (record { tag = refl; value = number_back 8 v all size; sized = number_below 8 v all size })

pub tape_writes_back : TapeWritesBack
tape_writes_back =
    front_back tape_read tape_bytes TapeSized λ t v e all h.
    let p = bind_back (tape_tag_of t) (λ k. tape_read_as k v) e h in
    let b = told p.0 v e all p.1.1 in
    ((λ i. field (tape_tag_number (b.tag i)) (b.value i)) ∙ ap (λ (n : ℕ). field n v) (coded_back tape_tag_number tape_tags t p.0 p.1.0), b.sized)
