-- Lines that are taken one after another.
use Rattle.std.proofs.Common.{◌≡◌, ℕ, ◌+◌, ◌-◌, ◌<◌, ◌≤◌, zero, suc, refl, sym, ◌∙◌, ap, subst, Bool, true, false, ◌==◌, List, [], ◌∷◌, ◌++◌, length, map, take, drop, get_or, Option, None, Some, Result, Ok, Err, arith, append_assoc}
use Rattle.std.specs.List.{range_with_len}
use Rattle.std.specs.Result.{IsErrAnd}
use Rattle.std.proofs.lemmas.List.{length-append, length-map, map-append}
use Rattle.std.proofs.lemmas.List.FromFn.{length-range_with_len}
use Rattle.std.proofs.Math.Seq.{get_or-append_seam, drop-append-add, take-append_seam}
use Rattle.certificate.specs.declared.faults.CertFault.{CertFault}
use Rattle.definitions.specs.Texts.{number_of}
use Rattle.certificate.specs.Faults.{LineTest, said, number_said, field_fault, entry_fault, rises, section_judges}
use Rattle.certificate.specs.Decoded.{section_said}
use Rattle.certificate.specs.Parsing.{FailsFirst, Asks, outcome, TakesSection}
use Rattle.certificate.specs.Values.{is_above}
use Rattle.certificate.proofs.Sections.{Before, entry_judges, entry_is}

module _ {E : Type 0} (read : List (List ℕ) → E) (key_of : E → ℕ) (name : List ℕ) (most : ℕ) (is_entry : List ℕ → List ℕ → Bool)
    (key : List ℕ → List ℕ → ℕ) (keyed : (a b : List ℕ) → key_of (read (a ∷ b ∷ [])) ≡ key a b) where
  -- so many entries of a section are taken
  pub record Reached (number₀ : ℕ) (text₀ : List ℕ) (count i : ℕ) (last : Option ℕ) (items : List E) (number : ℕ) (rest : List ℕ) : Type 0 where
    pub head : List (List ℕ)
    pub es : List (List (List ℕ))
    pub count_is : number_of (get_or head 1 []) ≡ count
    pub parts : said text₀ ≡ (head ∷ es) ++ said rest
    pub many : length es ≡ i
    pub items_are : items ≡ map read es
    pub before : (pre : List (List (List ℕ))) → Before is_entry key (pre ++ said text₀) (length pre + 1) ((length pre + 1) + i) last
    pub left : (pre : List (List (List ℕ))) (js : List LineTest) →
        outcome number₀ (section_judges name most is_entry key (pre ++ said text₀) (length pre) ++ js) text₀
        ≡ outcome number (entry_judges is_entry key (pre ++ said text₀) (length pre + 1) ((length pre + 1) + i) (count - i) ++ js) rest

  rises_is : (ws : List (List (List ℕ))) (first k : ℕ) (last : Option ℕ) → Before is_entry key ws first k last → (a b : List ℕ) →
      rises key ws first k a b ≡ is_above last (key a b)
  rises_is ws first k None e a b = let here : (k == first) ≡ true = grind arith in rw here refl
  rises_is ws first k (Some j) (later, e) a b = let here : (k == first) ≡ false = grind arith in rw here (rw e refl)

  -- what is asked of the next entry, and what of those after it
  next_judges : (ws : List (List (List ℕ))) (first k left : ℕ) → 0 < left →
      entry_judges is_entry key ws first k left ≡ entry_fault is_entry (rises key ws first k) ∷ entry_judges is_entry key ws first (k + 1)
      (left - 1)
  next_judges ws first k zero some = absurd (omega arith)
  next_judges ws first k (suc left) some = let less : suc left - 1 ≡ left = omega arith in rw less refl

  number_here : (pre : List (List (List ℕ))) (text : List ℕ) (head : List (List ℕ)) (others : List (List (List ℕ))) →
      said text ≡ head ∷ others → number_said (pre ++ said text) (length pre) ≡ number_of (get_or head 1 [])
  number_here pre text head others e = rw e (ap (λ (w : List (List ℕ)). number_of (get_or w 1 [])) (get_or-append_seam pre head others []))

  pub reached_first : (number₀ : ℕ) (text₀ : List ℕ) (number : ℕ) (rest : List ℕ) (count : ℕ) →
      Asks (field_fault name 1 0 most) number₀ text₀ number rest (λ ws v. v ≡ number_of (get_or ws 1 [])) (Ok count) →
      Reached number₀ text₀ count 0 None [] number rest
  reached_first number₀ text₀ number rest count (ws, parts, passes, left, value) = record {
    head = ws;
    es = [];
    count_is = sym value;
    parts = parts;
    many = refl;
    items_are = refl;
    before = λ pre. omega arith;
    left = λ pre js. first_left pre js;
  } where
    first_left : (pre : List (List (List ℕ))) (js : List LineTest) →
        outcome number₀ (section_judges name most is_entry key (pre ++ said text₀) (length pre) ++ js) text₀
        ≡ outcome number (entry_judges is_entry key (pre ++ said text₀) (length pre + 1) ((length pre + 1) + 0) (count - 0) ++ js) rest
    first_left pre js = grind (arith, number_here)

  -- what is left with one entry to be asked
  with_next : (number₀ : ℕ) (text₀ : List ℕ) (count i : ℕ) (last : Option ℕ) (items : List E) (number : ℕ) (rest : List ℕ) →
      Reached number₀ text₀ count i last items number rest → i < count →
      (pre : List (List (List ℕ))) (js : List LineTest) →
      outcome number₀ (section_judges name most is_entry key (pre ++ said text₀) (length pre) ++ js) text₀
      ≡ outcome number
      (entry_fault is_entry (λ a b. is_above last (key a b)) ∷
      (entry_judges is_entry key (pre ++ said text₀) (length pre + 1) (((length pre + 1) + i) + 1) ((count - i) - 1) ++ js)) rest
  with_next number₀ text₀ count i last items number rest r more pre js = grind (arith, next_judges, rises_is)

  -- an entry is refused
  pub reached_fails : {V : Type 0} (items_of : V → List E) {number₀ : ℕ} {text₀ : List ℕ} {count i : ℕ} {last : Option ℕ} {items : List E}
      {number : ℕ} {rest : List ℕ} (after : ℕ) (rest' : List ℕ) (fault : CertFault) (result : Result V CertFault) → IsErrAnd result (λ e. e ≡ fault) →
      Reached number₀ text₀ count i last items number rest → i < count →
      ((js : List LineTest) → FailsFirst (outcome number (entry_fault is_entry (λ a b. is_above last (key a b)) ∷ js) rest) fault) →
      TakesSection name most is_entry key read items_of number₀ text₀ after rest' result
  reached_fails items_of after rest' fault (Ok v) is r more asks = elim is [ ]
  reached_fails items_of {number₀ = number₀} {text₀ = text₀} {count = count} {i = i} {last = last} {items = items} {number = number} {rest = rest} after rest'
      fault (Err e) is r more asks =
      rw is (λ pre js. subst (λ faults. FailsFirst faults fault)
      (sym (with_next number₀ text₀ count i last items number rest r more pre js)) (asks _))

  -- one entry more
  pub reached_more : (number₀ : ℕ) (text₀ : List ℕ) (count i : ℕ) (last : Option ℕ) (items : List E) (number : ℕ) (rest : List ℕ)
      (after : ℕ) (rest' : List ℕ) (e : E) (k : ℕ) →
      Reached number₀ text₀ count i last items number rest → i < count →
      Asks (entry_fault is_entry (λ a b. is_above last (key a b))) number rest after rest' (λ ws v. v ≡ read ws) (Ok e) → k ≡ key_of e →
      Reached number₀ text₀ count (i + 1) (Some k) (items ++ e ∷ []) after rest'
  reached_more number₀ text₀ count i last items number rest after rest' e k r more (ws, parts, passes, left, value) key_is =
      let stated = entry_is is_entry key (λ a b. is_above last (key a b)) ws passes in
      let key_here : k ≡ key stated.0 stated.1 = key_is ∙ ap key_of (value ∙ ap read stated.2) ∙ keyed stated.0 stated.1 in
      record {
        head = r.head;
        es = r.es ++ ws ∷ [];
        count_is = r.count_is;
        parts = grind (arith, append_assoc);
        many = length-append r.es (ws ∷ []) ∙ ap (λ n. n + 1) r.many;
        items_are = grind (arith, map-append);
        before = λ pre. later pre stated.0 stated.1 stated.2 key_here;
        left = λ pre js. next_left pre js;
      } where
        place_is : (pre : List (List (List ℕ))) → length (pre ++ (r.head ∷ r.es)) ≡ (length pre + 1) + i
        place_is pre = omega (arith, length-append pre (r.head ∷ r.es))

        here : (pre : List (List (List ℕ))) → get_or (pre ++ said text₀) ((length pre + 1) + i) [] ≡ ws
        here pre =
            ap (λ xs. get_or (pre ++ xs) ((length pre + 1) + i) []) (r.parts ∙ ap (λ xs. (r.head ∷ r.es) ++ xs) parts)
            ∙ ap (λ xs. get_or xs ((length pre + 1) + i) []) (sym (append_assoc pre (r.head ∷ r.es) (ws ∷ said rest')))
            ∙ ap (λ n. get_or ((pre ++ (r.head ∷ r.es)) ++ ws ∷ said rest') n []) (sym (place_is pre))
            ∙ get_or-append_seam (pre ++ (r.head ∷ r.es)) ws (said rest') []

        later : (pre : List (List (List ℕ))) (a b : List ℕ) → ws ≡ a ∷ b ∷ [] → k ≡ key a b →
            Before is_entry key (pre ++ said text₀) (length pre + 1) ((length pre + 1) + (i + 1)) (Some k)
        later pre a b is same =
            let place : ((length pre + 1) + (i + 1)) - 1 ≡ (length pre + 1) + i = omega arith in
            (omega arith, rw place (rw (here pre ∙ is) (sym same)))

        next_left : (pre : List (List (List ℕ))) (js : List LineTest) →
            outcome number₀ (section_judges name most is_entry key (pre ++ said text₀) (length pre) ++ js) text₀
            ≡ outcome after (entry_judges is_entry key (pre ++ said text₀) (length pre + 1) ((length pre + 1) + (i + 1)) (count - (i + 1)) ++ js) rest'
        next_left pre js =
            let place : ((length pre + 1) + i) + 1 ≡ (length pre + 1) + (i + 1) = omega arith in let less : (count - i) - 1 ≡ count - (i + 1) = omega arith in
            with_next number₀ text₀ count i last items number rest r more pre js
            ∙ left (entry_judges is_entry key (pre ++ said text₀) (length pre + 1) (((length pre + 1) + i) + 1) ((count - i) - 1) ++ js)
            ∙ ap (λ n. outcome after (entry_judges is_entry key (pre ++ said text₀) (length pre + 1) n ((count - i) - 1) ++ js) rest') place
            ∙ ap (λ n. outcome after (entry_judges is_entry key (pre ++ said text₀) (length pre + 1) ((length pre + 1) + (i + 1)) n ++ js) rest') less

  -- all entries are taken
  pub reached_all : {V : Type 0} (items_of : V → List E) (v : V) {number₀ : ℕ} {text₀ : List ℕ} {count i : ℕ} {last : Option ℕ} {number : ℕ}
      {rest : List ℕ} →
      Reached number₀ text₀ count i last (items_of v) number rest → count ≤ i → i ≤ count →
      TakesSection name most is_entry key read items_of number₀ text₀ number rest (Ok v)
  reached_all items_of v {number₀ = number₀} {text₀ = text₀} {count = count} {i = i} {number = number} {rest = rest} r low high pre =
      ((λ js. whole js), r.head ∷ r.es, r.parts, long, said_here) where
        ws : List (List (List ℕ))
        ws = pre ++ said text₀

        none : count - i ≡ 0
        none = omega arith

        whole : (js : List LineTest) → outcome number₀ (section_judges name most is_entry key ws (length pre) ++ js) text₀ ≡ outcome number js rest
        whole js = r.left pre js
            ∙ ap (λ n. outcome number (entry_judges is_entry key (pre ++ said text₀) (length pre + 1) ((length pre + 1) + i) n ++ js)
            rest) none

        count_here : number_said ws (length pre) ≡ length r.es
        count_here = number_here pre text₀ r.head (r.es ++ said rest) r.parts ∙ r.count_is ∙ (omega arith)

        long : length (r.head ∷ r.es) ≡ length (section_judges name most is_entry key ws (length pre))
        long = ap suc
            (sym (length-map (range_with_len (length pre + 1) (number_said ws (length pre)))
            (λ k. entry_fault is_entry (rises key ws (length pre + 1) k))
            ∙ length-range_with_len (length pre + 1) (number_said ws (length pre)) ∙ count_here))

        behind : drop (length pre + 1) ws ≡ r.es ++ said rest
        behind = drop-append-add pre (said text₀) 1 ∙ ap (drop 1) r.parts

        said_here : items_of v ≡ section_said read ws (length pre)
        said_here = r.items_are
            ∙ ap (map read)
            (sym (ap (λ n. take n (drop (length pre + 1) ws)) count_here ∙ ap (take (length r.es)) behind
            ∙ take-append_seam r.es (said rest)))

-- a refusal of a section
pub section_fails : {V E : Type 0} (name : List ℕ) (most : ℕ) (is_entry : List ℕ → List ℕ → Bool) (key : List ℕ → List ℕ → ℕ)
    (read : List (List ℕ) → E) (items : V → List E) (number : ℕ) (text : List ℕ) (after : ℕ) (rest : List ℕ) (result : Result V CertFault)
    (fault : CertFault) →
    IsErrAnd result (λ e. e ≡ fault) →
    ((pre : List (List (List ℕ))) (js : List LineTest) →
    FailsFirst (outcome number (section_judges name most is_entry key (pre ++ said text) (length pre) ++ js) text) fault) →
    TakesSection name most is_entry key read items number text after rest result
section_fails name most is_entry key read items number text after rest (Ok v) fault is fails = elim is [ ]
section_fails name most is_entry key read items number text after rest (Err e) fault is fails = rw is fails
