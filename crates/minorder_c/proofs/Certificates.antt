-- The text of a solution's certificate.
--     solution_text      it is the certificate's of the first order of the fewest nodes, and good
use Rattle.std.proofs.Common.{◌≡◌, ℕ, List, refl, subst}
use Rattle.definitions.specs.Certificates.{IsCertOf, certificate_of}
use Rattle.definitions.specs.Diagrams.{IsFirstKeeping}
use Rattle.definitions.specs.Pairs.{Pair}
use Rattle.definitions.specs.Problems.{TruthTables, functions}
use Rattle.definitions.proofs.Certificates.Written.{cert_of_is_good}
use Rattle.certificate.specs.Faults.{Spells}
use Rattle.minorder_c.specs.Certified.{IsCertificateText}

-- the text of an order's certificate, if the order is the first of the fewest nodes
first_text : (t : TruthTables) (P : List Pair) (order text : List ℕ) → IsFirstKeeping t.inputs (functions t) P order →
    Spells text (certificate_of t.inputs (functions t) P order) → IsCertificateText t P text
unfolding certificate_of
first_text t P order text first spells =
    let n = t.inputs in
    let F = functions t in
    let cert = certificate_of n F P order in
    let is : IsCertOf n F P cert = record { first = first; parts = refl } in record {
      cert = cert;
      is = is;
      good = cert_of_is_good n F P cert is;
      spells = spells;
    }

pub solution_text : (t t' : TruthTables) (P P' P'' : List Pair) (order text : List ℕ) → t' ≡ t → P' ≡ P → P'' ≡ P →
    IsFirstKeeping t'.inputs (functions t') P' order → Spells text (certificate_of t'.inputs (functions t') P'' order) →
    IsCertificateText t P text
solution_text t t' P P' P'' order text tables pairs kept first spells =
    let first' = subst (λ (p : List Pair). IsFirstKeeping t'.inputs (functions t') p order) pairs first in
    let spells' = subst (λ (p : List Pair). Spells text (certificate_of t'.inputs (functions t') p order)) kept spells in
    subst (λ (z : TruthTables). IsCertificateText z P text) tables (first_text t' P order text first' spells')
