-- What is true of every policy text. Assumes nothing.
use Rattle.std.proofs.Common.{◌≡◌, ℕ, zero, suc, ◌+◌, ◌-◌, ◌≤◌, min, Bool, true, false, cond, not, ◌&&◌, ltb, leb, List, [], ◌∷◌, ◌++◌, length, get_or, replicate, is_some, Some, None, Option, sym, refl, ap, ◌∙◌, arith}
use Rattle.policy.proofs.Verdicts.{laws as policies}
use Rattle.policy.specs.Policy.{Policy, evaluate}
use Rattle.policy_clauses.proofs.Unplaced.{bare, cond_blind, kind_blind, or_blind, strip, then_blind, word_blind}
use Rattle.policy_clauses.specs.Reading.{Reading, Got, Stop, Written, index_from, index_of, next, or_stop, word}
use Rattle.policy_clauses.specs.declared.Awaited.TheVariants as awaited
use Rattle.policy_items.proofs.Unplaced.{clauses_blind, list_head_blind, opens_blind, prefixes_blind}
use Rattle.policy_items.specs.Items.{clauses, list_head, opens, prefix_list}
use Rattle.policy_words.specs.Words.{item_word, number_of}
use Rattle.policy_words.specs.declared.ItemWord.{ItemWord}
use Rattle.policy_words.specs.declared.ItemWord.TheVariants as an_item_word
use Rattle.prefix.specs.Prefix.{Prefix}
use Rattle.route.specs.Route.{Route}
use Rattle.std.proofs.lemmas.Slice.Eq.{bytes_eq-Decides}
use Rattle.std.proofs.lemmas.List.{get_or_append_left, get_or_at}
use Rattle.std.proofs.lemmas.Bool.{cond-true, cond-false, le-leb, lt-leb, lt-ltb, le-ltb}
use Rattle.std.specs.Str.{bytes_eq}
use Rattle.text_tokens.specs.Spacing.{Same, unplaced}
use Rattle.text_tokens.specs.Tokens.{Source, Ended, More, tokens}
use Rattle.policy_tables.specs.declared.Direction.{Direction}
use Rattle.policy_tables.specs.declared.Direction.TheVariants.{Import, Export}
use Rattle.policy_tables.specs.Laws.{TextLaws, placeless}
use Rattle.policy_tables.specs.Texts.{Content, Draft, clauses_meant, empty, item, item_text, items, list_text, meaning, nothing, outcome, peer, place_of, policy_for, policy_text, with_list, with_policy}

peer_blind : (peers : ℕ) (direction : Direction) (ps : List (Option (List Written))) (s : Source) → peer peers direction ps (unplaced s) ≡ strip (peer peers direction ps s)
peer_blind peers direction ps =
    then_blind bare (word awaited.Peer) (λ w rest. or_stop (number_of w.1) (λ n. cond (ltb n (min peers 64) && not (is_some (get_or ps (place_of direction n) None))) (Got (place_of direction n) rest) (Stop w.0 awaited.Peer)) (Stop w.0 awaited.Peer)) (word_blind awaited.Peer)
    (λ w r. or_blind (number_of w.1) (λ n. cond (ltb n (min peers 64) && not (is_some (get_or ps (place_of direction n) None))) (Got (place_of direction n) (unplaced r)) (Stop 0 awaited.Peer)) (λ n. cond (ltb n (min peers 64) && not (is_some (get_or ps (place_of direction n) None))) (Got (place_of direction n) r) (Stop w.0 awaited.Peer)) (Stop 0 awaited.Peer) (Stop w.0 awaited.Peer)
    (λ n. cond_blind (ltb n (min peers 64) && not (is_some (get_or ps (place_of direction n) None))) (Got (place_of direction n) (unplaced r)) (Got (place_of direction n) r) (Stop 0 awaited.Peer) (Stop w.0 awaited.Peer) refl refl) refl)

policy_blind : (peers : ℕ) (direction : Direction) (d : Draft) (s : Source) → policy_text peers direction d (unplaced s) ≡ strip (policy_text peers direction d s)
policy_blind peers direction d =
    then_blind (λ x. x) (peer peers direction d.policies) (λ place rest. next (opens rest) (λ _ rest₂. next (clauses (min 256 (4096 - d.count)) d.names true [] rest₂) (λ cs rest₃. Got (with_policy place cs d) rest₃))) (peer_blind peers direction d.policies)
    (λ place r. then_blind (λ x. x) opens (λ _ rest₂. next (clauses (min 256 (4096 - d.count)) d.names true [] rest₂) (λ cs rest₃. Got (with_policy place cs d) rest₃)) opens_blind
    (λ _ r₂. then_blind (λ x. x) (clauses (min 256 (4096 - d.count)) d.names true []) (λ cs rest₃. Got (with_policy place cs d) rest₃) (clauses_blind (min 256 (4096 - d.count)) d.names true []) (λ cs r₃. refl) r₂) r)

abbrev list_read : Draft → Source → Reading Draft
list_read d s = next (list_head d.names s) (λ name rest. next (prefix_list rest) (λ list rest₂. Got (with_list name list d) rest₂))

list_blind : (at : ℕ) (d : Draft) (s : Source) → list_text 0 d (unplaced s) ≡ strip (list_text at d s)
list_blind at d s =
    cond_blind (ltb (length d.lists) 64) (list_read d (unplaced s)) (list_read d s) (Stop 0 awaited.Policy) (Stop at awaited.Policy)
    (then_blind (λ x. x) (list_head d.names) (λ name rest. next (prefix_list rest) (λ list rest₂. Got (with_list name list d) rest₂)) (list_head_blind d.names)
    (λ name r. then_blind (λ x. x) prefix_list (λ list rest₂. Got (with_list name list d) rest₂) (prefixes_blind 63 []) (λ list r₂. refl) r) s)
    refl

item_text_blind : (peers : ℕ) (d : Draft) (at : ℕ) (w : Option ItemWord) (s : Source) → item_text peers d 0 w (unplaced s) ≡ strip (item_text peers d at w s)
item_text_blind peers d at (Some an_item_word.List) s = list_blind at d s
item_text_blind peers d at (Some an_item_word.From) s = policy_blind peers Import d s
item_text_blind peers d at (Some an_item_word.To) s = policy_blind peers Export d s
item_text_blind peers d at None s = refl

onward : (k peers : ℕ) (x : Reading Draft) → ((e : Draft) (r : Source) → outcome (items k peers e (unplaced r)) ≡ placeless (outcome (items k peers e r))) → outcome (next (strip x) (λ e rest₂. items k peers e rest₂)) ≡ placeless (outcome (next x (λ e rest₂. items k peers e rest₂)))
onward k peers (Got e r) h = h e r
onward k peers (Stop at a) h = refl

pub items_blind : (k peers : ℕ) (d : Draft) (s : Source) → outcome (items k peers d (unplaced s)) ≡ placeless (outcome (items k peers d s))
unfolding items unplaced
items_blind zero peers d (Ended at) = refl
items_blind (suc k) peers d (Ended at) = refl
items_blind zero peers d (More t rest) = refl
items_blind (suc k) peers d (More t rest) =
    ap (λ x. outcome (next x (λ e rest₂. items k peers e rest₂))) (kind_blind (λ x. x) awaited.Item t.at t.kind (λ w. item_text peers d 0 (item_word w) (unplaced rest)) (λ w. item_text peers d t.at (item_word w) rest) (λ w. item_text_blind peers d t.at (item_word w) rest))
    ∙ onward k peers (item peers d t rest) (λ e r. items_blind k peers e r)

bytes_within : (peers : ℕ) (text : List ℕ) → length text ≤ 65536 → meaning peers text ≡ outcome (items 192 peers empty (tokens text))
bytes_within peers text h = cond-true (leb (length text) 65536) _ _ (le-leb (length text) 65536 h)

spacing : (peers : ℕ) (a b : List ℕ) → length a ≤ 65536 → length b ≤ 65536 → Same a b → placeless (meaning peers a) ≡ placeless (meaning peers b)
spacing peers a b ha hb e =
    ap placeless (bytes_within peers a ha) ∙ sym (items_blind 192 peers empty (tokens a))
    ∙ ap (λ s. outcome (items 192 peers empty s)) e
    ∙ items_blind 192 peers empty (tokens b) ∙ sym (ap placeless (bytes_within peers b hb))

behind_one : (b : Bool) (i j : ℕ) (x y : Option ℕ) → (x ≡ None → y ≡ Some j) → cond b (Some i) x ≡ None → cond b (Some i) y ≡ Some j
behind_one true i j x y h e = let z : ◌≡◌ {A = ℕ} 0 1 = cc in absurd (omega arith)
behind_one false i j x y h e = h e

pub found_at_end : (i : ℕ) (name : List ℕ) (names : List (List ℕ)) → index_from i name names ≡ None → index_from i name (names ++ (name ∷ [])) ≡ Some (i + length names)
found_at_end i name [] e = let same = (bytes_eq-Decides name name).1 refl in let none : i + 0 ≡ i = omega arith in cond-true (bytes_eq name name) _ _ same ∙ ap Some (sym none)
found_at_end i name (other ∷ names) e =
    let one : i + 1 + length names ≡ i + suc (length names) = omega arith in
    behind_one (bytes_eq name other) i (i + suc (length names)) (index_from (i + 1) name names) (index_from (i + 1) name (names ++ (name ∷ []))) (λ h. found_at_end (i + 1) name names h ∙ ap Some one) e

still : (b : Bool) (i j : ℕ) (x y : Option ℕ) → (x ≡ Some j → y ≡ Some j) → cond b (Some i) x ≡ Some j → cond b (Some i) y ≡ Some j
still true i j x y h e = e
still false i j x y h e = h e

pub stays : (i : ℕ) (name other : List ℕ) (names : List (List ℕ)) (j : ℕ) → index_from i name names ≡ Some j → index_from i name (names ++ (other ∷ [])) ≡ Some j
stays i name other [] j e = let z : ◌≡◌ {A = ℕ} 0 1 = cc in absurd (omega arith)
stays i name other (x ∷ names) j e = still (bytes_eq name x) i j (index_from (i + 1) name names) (index_from (i + 1) name (names ++ (other ∷ []))) (λ h. stays (i + 1) name other names j h) e

named : (name : List ℕ) (list : List Prefix) (d : Draft) → length d.names ≡ length d.lists → index_of name d.names ≡ None → (index_of name (with_list name list d).names ≡ Some (length d.lists)) × (get_or (with_list name list d).lists (length d.lists) [] ≡ list)
named name list d l e = (let n : 0 + length d.names ≡ length d.lists = omega arith in found_at_end 0 name d.names e ∙ ap Some n, get_or_at d.lists list [] [] (length d.lists) refl)

no_policy : (c : Content) (direction : Direction) (p : ℕ) → get_or c.policies (place_of direction p) None ≡ None → policy_for c direction p ≡ []
no_policy c direction p e = ap (λ o. cond (ltb p 64) (clauses_meant c.lists o) []) e ∙ both (ltb p 64)
  where
    both : (b : Bool) → cond {A = Policy} b [] [] ≡ []
    both true = refl
    both false = refl

unnamed : (c : Content) (direction : Direction) (p : ℕ) (r : Route) → get_or c.policies (place_of direction p) None ≡ None → evaluate (policy_for c direction p) r ≡ None
unnamed c direction p r e = ap (λ q. evaluate q r) (no_policy c direction p e) ∙ policies.no_clauses r

none_at : (k i : ℕ) → get_or {A = Option (List Written)} (replicate k None) i None ≡ None
none_at zero i = refl
none_at (suc k) zero = refl
none_at (suc k) (suc i) = none_at k i

pub text_laws : TextLaws
text_laws = record {
  spacing = spacing;
  lists_within = λ at d s h. cond-true (ltb (length d.lists) 64) _ _ (lt-ltb (length d.lists) 64 h);
  lists_beyond = λ at d s h. cond-false (ltb (length d.lists) 64) _ _ (le-ltb (length d.lists) 64 h);
  bytes_within = bytes_within;
  bytes_beyond = λ peers text h. cond-false (leb (length text) 65536) _ _ (lt-leb (length text) 65536 h);
  named = named;
  stays_named = λ name other list d i e. stays 0 name other d.names i e;
  stays_listed = λ other list d i h. get_or_append_left d.lists (list ∷ []) [] i h;
  unnamed = unnamed;
  before_texts = λ direction p r. unnamed nothing direction p r (none_at 128 (place_of direction p));
}
