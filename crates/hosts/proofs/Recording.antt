-- What a record stores, and the names that it is made with.
use Rattle.std.proofs.Common.{Bor, ◌≡◌, ℕ, ◌-◌, ◌≤◌, min, Bool, true, false, cond, ltb, List, ◌++◌, length, take, replicate, Some, None, Ok, Option, sym, refl, ap, ◌∙◌, arith}
use Rattle.std.specs.Option.{option_or}
use Rattle.std.proofs.lemmas.List.{take_at, take_all, length-take}
use Rattle.std.proofs.lemmas.Bool.{ltb-false}
use Rattle.values.specs.declared.faults.Fault.{Fault}
use Rattle.values.specs.declared.faults.Fault.TheVariants.{HostTextTooLong}
use Rattle.values.specs.declared.texts.Text.{Text}
use Rattle.values.specs.Faults.{answer}
use Rattle.hosts.specs.Hosts.{Meaning}
use Rattle.hosts.specs.Records.{most_host_bytes, host_bytes, among, release_at, text_at, kept_bytes, meaning_of, fields_meaning, text_refusal, texts_refusal, names_refusal, made_record}
use Rattle.values.specs.Faults.{unless_refused}
use Rattle.hosts.specs.declared.records.Fields.{Fields}

-- what a copy of bytes means
pub copied_bytes : (bs stored : List ℕ) (k : ℕ) → k ≡ min (length bs) most_host_bytes → stored ≡ take most_host_bytes bs ++ replicate (most_host_bytes - length bs) 0 → host_bytes (record { length = k; bytes = stored }) ≡ take most_host_bytes bs
unfolding host_bytes
copied_bytes bs stored k h e = ap (take k) e ∙ take_at (take most_host_bytes bs) (replicate (most_host_bytes - length bs) 0) k (omega (arith, length-take most_host_bytes bs))

-- a text that is not refused is kept whole
pub whole : (i : ℕ) (bs : List ℕ) → text_refusal i bs ≡ None → take most_host_bytes bs ≡ bs
whole i bs e = take_all most_host_bytes bs (short (ltb most_host_bytes (length bs)) refl e)
  where
    short : (b : Bool) → ltb most_host_bytes (length bs) ≡ b → cond b (Some (HostTextTooLong i)) None ≡ None → length bs ≤ most_host_bytes
    short true h q = absurd (let z : ◌≡◌ {A = ℕ} 0 1 = cc in omega arith)
    short false h q = ltb-false most_host_bytes (length bs) h

-- no refusal
pub passed : {x : Unit {0}} (o : Option Fault) → Ok x ≡ answer o → o ≡ None
passed None e = refl
passed (Some f) e = absurd (grind (arith, e))

both_none : (a b : Option Fault) → option_or a b ≡ None → (a ≡ None) × (b ≡ None)
both_none None b e = (refl, e)
both_none (Some f) b e = absurd (let z : ◌≡◌ {A = ℕ} 0 1 = cc in omega arith)

-- fields that are not refused are kept whole
all_kept : (f : Fields (Bor (List ℕ))) (names : List Text) → texts_refusal f ≡ None → meaning_of kept_bytes f names ≡ fields_meaning f names
all_kept f names nt =
    let r0 = both_none (text_refusal 0 f.implementation_name.now) _ nt in
    let r2 = both_none (text_refusal 2 f.os_name.now) _ r0.1 in
    let r3 = both_none (text_refusal 3 f.platform_machine.now) _ r2.1 in
    let r4 = both_none (text_refusal 4 f.platform_python_implementation.now) _ r3.1 in
    let r5 = both_none (text_refusal 5 f.platform_release.now) _ r4.1 in
    let r6 = both_none (text_refusal 6 f.platform_system.now) _ r5.1 in
    let r7 = both_none (text_refusal 7 f.platform_version.now) (text_refusal 10 f.sys_platform.now) r6.1 in
    let qa = whole 0 f.implementation_name.now r0.0 in
    let qb = whole 2 f.os_name.now r2.0 in
    let qc = whole 3 f.platform_machine.now r3.0 in
    let qd = whole 4 f.platform_python_implementation.now r4.0 in
    let qe = whole 5 f.platform_release.now r5.0 in
    let qg = whole 6 f.platform_system.now r6.0 in
    let qh = whole 7 f.platform_version.now r7.0 in
    let qk = whole 10 f.sys_platform.now r7.1 in
    λ i. record { release = release_at f.implementation_version f.python_full_version f.python_version; text = text_at (qa i) (qb i) (qc i) (qd i) (qe i) (qg i) (qh i) (qk i); active = among names }

-- the record of fields and names that are not refused means them
pub recorded : (f : Fields (Bor (List ℕ))) (names : List Text) (m : Meaning) → texts_refusal f ≡ None → names_refusal names ≡ None → m ≡ meaning_of kept_bytes f names → Ok m ≡ made_record f names
recorded f names m nt nn e =
    ap Ok (e ∙ all_kept f names nt)
    ∙ sym (ap (λ o. unless_refused o (fields_meaning f names)) (ap (λ o. option_or o (names_refusal names)) nt ∙ nn))
