-- What the writers of a run hold after it, path by path.
--     certified_part      what the certificate's writer got
--     good_written      what it got reads as a good certificate
use Rattle.std.proofs.Common.{◌≡◌, ℕ, Bool, true, false, List, Option, Some, None, String, is_some, option_map, string_bytes, sym, ◌∙◌}
use Rattle.std.specs.Borrow.{Bor}
use Rattle.std.specs.Global.{Global}
use Rattle.definitions.proofs.Certificates.Written.{cert_of_is_good}
use Rattle.certificate.proofs.Lengths.{text_readable}
use Rattle.certificate.proofs.Spellings.{one_form}
use Rattle.pla_reader.specs.Covers.{NamedCover, functions_of}
use Rattle.command_line.specs.declared.line.Output.{Output}
use Rattle.command_line.specs.declared.line.Output.TheVariants.{Report, Count, Orders, Sizes}
use Rattle.report_texts.specs.Answers.{HasCertificate, IsCertificateOf}
use Rattle.report_texts.specs.Runs.{Certifies, Gets, GetsText, ReadsAsGood, whole}

-- no text beside another one than the report
none_part : {C : Type 0} (contents : C → Option (List ℕ)) (text : Option (String Global)) (part : List ℕ → List ℕ) (before : Option C)
    (after : Option (Option (List ℕ))) → text ≡ None →
    GetsText (option_map (λ t. part (string_bytes t)) text) (option_map contents before) after → after ≡ option_map contents before
none_part contents None part before after has got = got
none_part contents (Some t) part before after has got = absurd (cc)

pub certified_part : {C : Type 0} (contents : C → Option (List ℕ)) (output : Output) (above : Option (Bor (List ℕ))) (cover : NamedCover)
    (asked : Bool) (text : Option (String Global)) (part : List ℕ → List ℕ) (before : Option C) (after : Option (Option (List ℕ))) →
    HasCertificate output above cover asked text → asked ≡ is_some before →
    GetsText (option_map (λ t. part (string_bytes t)) text) (option_map contents before) after →
    Certifies output above cover part (option_map contents before) after
certified_part contents Count above cover asked text part before after has is got = none_part contents text part before after has got
certified_part contents Orders above cover asked text part before after has is got = none_part contents text part before after has got
certified_part contents Sizes above cover asked text part before after has is got = none_part contents text part before after has got
certified_part contents Report above cover false None part None after has is got = got
certified_part contents Report above cover false None part (Some w) after has is got = absurd (cc)
certified_part contents Report above cover false (Some t) part before after has is got = absurd (cc)
certified_part contents Report above cover true None part before after has is got = absurd has
certified_part contents Report above cover true (Some t) part None after has is got = absurd (cc)
certified_part contents Report above cover true (Some t) part (Some w) None has is got = got
certified_part contents Report above cover true (Some t) part (Some w) (Some held) has is got = (string_bytes t, has, got)

reads_as_good : (above : Option (Bor (List ℕ))) (cover : NamedCover) (text : List ℕ) → IsCertificateOf above cover text → ReadsAsGood cover text
reads_as_good above cover text (kept, pairs, is) = (
  is.cert,
  (text_readable text is.cert is.spells, is.spells),
  cert_of_is_good cover.inputs (functions_of cover) kept.pairs is.cert is.is,
  λ other spells. one_form other is.cert spells.has is.spells.has (sym spells.text_is ∙ is.spells.text_is),
)

gets_good : (above : Option (Bor (List ℕ))) (cover : NamedCover) (before after : Option (Option (List ℕ))) →
    Gets (IsCertificateOf above cover) whole before after → Gets (ReadsAsGood cover) whole before after
gets_good above cover None after got = got
gets_good above cover (Some b) None got = got
gets_good above cover (Some b) (Some a) got = (got.0, reads_as_good above cover got.0 got.1, got.2)

pub good_written : (output : Output) (above : Option (Bor (List ℕ))) (cover : NamedCover) (before after : Option (Option (List ℕ))) →
    output ≡ Report → Certifies output above cover whole before after → Gets (ReadsAsGood cover) whole before after
good_written Report above cover before after e got = gets_good above cover before after got
good_written Count above cover before after e got = absurd (cc)
good_written Orders above cover before after e got = absurd (cc)
good_written Sizes above cover before after e got = absurd (cc)
