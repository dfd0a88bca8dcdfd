-- What is written of a file follows from its bytes and from what is asked.
--     pairs_unique      one list of pairs is kept
--     text_unique, certificate_unique      one report of a cover, and one certificate
--     printed_unique, certified_unique      so runs that are done leave the same
use Rattle.std.proofs.Common.{◌≡◌, ℕ, List, ◌++◌, Option, Some, None, Ok, sym, ap, ◌∙◌, subst}
use Rattle.std.specs.Borrow.{Bor}
use Rattle.definitions.specs.Pairs.{Pair}
use Rattle.definitions.specs.KeptPairs.{KeptPairs}
use Rattle.definitions.specs.PairTexts.{ParsesAs, listed}
use Rattle.definitions.specs.Sifting.{sifted}
use Rattle.definitions.proofs.Lists.Firsts.{first_order_unique, first_keeping_unique, cert_unique}
use Rattle.certificate.specs.Spelling.{spelling}
use Rattle.pla_reader.specs.Covers.{NamedCover, functions_of}
use Rattle.pla_reader.specs.Lines.{said}
use Rattle.pla_reader.specs.Reading.{Reads}
use Rattle.pla_reader.proofs.CoverOrFault.{one_cover}
use Rattle.command_line.specs.declared.line.Output.{Output}
use Rattle.command_line.specs.declared.line.Output.TheVariants.{Report, Count, Orders, Sizes}
use Rattle.command_line.specs.declared.line.RunPlan.{RunPlan}
use Rattle.outcomes.specs.declared.outcome.Outcome.TheVariants.{Done}
use Rattle.report_texts.specs.Answers.{AskTheSame, IsAnswer, IsCertificate, IsCertificateOf, IsOrdersAnswer, IsText, IsTextOf, bytes_of}
use Rattle.outcomes.specs.Plans.{PairsAre}
use Rattle.report_texts.specs.Runs.{Certifies, Delivers, held, whole}
use Rattle.report_texts.specs.OrderTexts.{orders_text, sizes_text}
use Rattle.report_texts.specs.Texts.{nodes_under, report_text}

-- ---- the pairs

parsed_unique : (P : Option (List Pair)) (n : ℕ) (kept other : KeptPairs) → ParsesAs P n (Ok kept) → ParsesAs P n (Ok other) → kept ≡ other
parsed_unique None n kept other p q = absurd p
parsed_unique (Some P) n kept other p q = p.2 ∙ sym q.2

pub pairs_unique : (above later : Option (Bor (List ℕ))) (n : ℕ) (kept other : KeptPairs) → bytes_of above ≡ bytes_of later →
    PairsAre above n (Ok kept) → PairsAre later n (Ok other) → kept ≡ other
pairs_unique None None n kept other e p q = p ∙ sym q
pairs_unique None (Some t) n kept other e p q = absurd (cc)
pairs_unique (Some s) None n kept other e p q = absurd (cc)
pairs_unique (Some s) (Some t) n kept other e p q =
    let same : s.now ≡ t.now = cc in
    parsed_unique (listed s.now) n kept other p (subst (λ (text : List ℕ). ParsesAs (listed text) n (Ok other)) (sym same) q)

-- ---- the texts

answer_unique : (cover : NamedCover) (P : List Pair) (a b : List ℕ) → IsAnswer cover P a → IsAnswer cover P b → a ≡ b
answer_unique cover P a b f g =
    let n = cover.inputs in
    let F = functions_of cover in
    let best = first_keeping_unique n F P f.best g.best f.first g.first in
    let start = first_order_unique n P f.start g.start f.starts g.starts in
    f.is ∙ (λ i. report_text cover (best i) (sifted n F P (start i))) ∙ sym g.is

orders_unique : (cover : NamedCover) (P : List Pair) (a b : List ℕ) → IsOrdersAnswer cover P a → IsOrdersAnswer cover P b → a ≡ b
orders_unique cover P a b f g =
    let start = first_order_unique cover.inputs P f.start g.start f.starts g.starts in
    f.is ∙ ap (λ order. orders_text cover P (nodes_under cover (sifted cover.inputs (functions_of cover) P order))) start ∙ sym g.is

text_by : (output : Output) (above later : Option (Bor (List ℕ))) (cover : NamedCover) (a b : List ℕ) → bytes_of above ≡ bytes_of later →
    IsText output above cover a → IsText output later cover b → a ≡ b
text_by Count above later cover a b e p q = p ∙ sym q
text_by Report above later cover a b e (kept, pairs, is) (other, also, has) =
    let same = pairs_unique above later cover.inputs kept other e pairs also in
    answer_unique cover kept.pairs a b is (subst (λ (k : KeptPairs). IsAnswer cover k.pairs b) (sym same) has)
text_by Orders above later cover a b e (kept, pairs, is) (other, also, has) =
    let same = pairs_unique above later cover.inputs kept other e pairs also in
    orders_unique cover kept.pairs a b is (subst (λ (k : KeptPairs). IsOrdersAnswer cover k.pairs b) (sym same) has)
text_by Sizes above later cover a b e (kept, pairs, is) (other, also, has) =
    is ∙ ap (λ (k : KeptPairs). sizes_text cover k.pairs) (pairs_unique above later cover.inputs kept other e pairs also) ∙ sym has

pub text_unique : (plan other : RunPlan) (cover : NamedCover) (a b : List ℕ) → AskTheSame plan other → IsTextOf plan cover a → IsTextOf other cover b → a ≡ b
text_unique plan other cover a b same p q =
    text_by plan.output plan.above other.above cover a b same.above p
    (subst (λ (output : Output). IsText output other.above cover b) (sym same.output) q)

certificate_by : (above later : Option (Bor (List ℕ))) (cover : NamedCover) (a b : List ℕ) → bytes_of above ≡ bytes_of later →
    IsCertificateOf above cover a → IsCertificateOf later cover b → a ≡ b
certificate_by above later cover a b e (kept, pairs, is) (other, also, has) =
    let same = pairs_unique above later cover.inputs kept other e pairs also in
    let has' = subst (λ (k : KeptPairs). IsCertificate cover k.pairs b) (sym same) has in
    let certs = cert_unique cover.inputs (functions_of cover) kept.pairs is.cert has'.cert is.is has'.is in
    is.spells.text_is ∙ ap spelling certs ∙ sym has'.spells.text_is

pub certificate_unique : (plan other : RunPlan) (cover : NamedCover) (a b : List ℕ) → AskTheSame plan other →
    IsCertificateOf plan.above cover a → IsCertificateOf other.above cover b → a ≡ b
certificate_unique plan other cover a b same p q = certificate_by plan.above other.above cover a b same.above p q

-- ---- the runs

pub printed_unique : (plan other : RunPlan) (file before after later : List ℕ) (c d e f : Option (Option (List ℕ))) → AskTheSame plan other →
    Delivers plan (Reads file) (held (Some before) c) (held (Some after) d) Done →
    Delivers other (Reads file) (held (Some before) e) (held (Some later) f) Done → after ≡ later
printed_unique plan other file before after later c d e f same (cover, text, reads, is, got, more) (cover', text', reads', is', got', more') =
    let covers = one_cover (said file) cover cover' reads reads' in
    let texts = text_unique plan other cover text text' same is (subst (λ (k : NamedCover). IsTextOf other k text') (sym covers) is') in
    got ∙ ap (λ t. before ++ t) texts ∙ sym got'

certifies_unique : (output : Output) (above later : Option (Bor (List ℕ))) (cover : NamedCover) (c a b : List ℕ) → bytes_of above ≡ bytes_of later →
    Certifies output above cover whole (Some (Some c)) (Some (Some a)) → Certifies output later cover whole (Some (Some c)) (Some (Some b)) → a ≡ b
certifies_unique Count above later cover c a b e p q = cc
certifies_unique Orders above later cover c a b e p q = cc
certifies_unique Sizes above later cover c a b e p q = cc
certifies_unique Report above later cover c a b e (text, is, got) (text', is', got') = got
    ∙ ap (λ t. c ++ t) (certificate_by above later cover text text' e is is') ∙ sym got'

pub certified_unique : (plan other : RunPlan) (file before after later : List ℕ) (c d e f : Option (List ℕ)) → AskTheSame plan other →
    Delivers plan (Reads file) (held c (Some (Some before))) (held d (Some (Some after))) Done →
    Delivers other (Reads file) (held e (Some (Some before))) (held f (Some (Some later))) Done → after ≡ later
certified_unique plan other file before after later c d e f same (cover, text, reads, is, got, more) (cover', text', reads', is', got', more') =
    let covers = one_cover (said file) cover cover' reads reads' in
    certifies_unique plan.output plan.above other.above cover before after later same.above more
    (subst (λ (k : NamedCover). Certifies plan.output other.above k whole (Some (Some before)) (Some (Some later))) (sym covers)
    (subst (λ (output : Output). Certifies output other.above cover' whole (Some (Some before)) (Some (Some later))) (sym same.output) more'))
