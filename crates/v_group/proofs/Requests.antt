-- What a request is, by its message and the count that came with it.
use Rattle.std.proofs.Common.{◌≡◌, ℕ, Bool, true, false, ◌==◌, ◌&&◌, ◌||◌, refl, sym, ◌∙◌, inl, inr, if◌then◌else◌}
use Rattle.std.proofs.lemmas.Bool.{and_parts, cases_Bool, cond-false, cond_both, eqb-true}
use Rattle.vk_types.specs.Types.{Message}
use Rattle.vk_base.specs.declared.limits.TheConstants.{MESSAGE_BYTES}
use Rattle.vk_base.specs.Messages.{segment_of}
use Rattle.vk_base.specs.Ranges.{range_of}
use Rattle.vk_group.specs.declared.request.Request.{Request}
use Rattle.vk_group.specs.declared.request.Request.TheVariants as requests
use Rattle.vk_group.specs.Messages.{kind_of, lends, outcome_of as outcome_in, place_of, ready_message, request_in, result_message, takes}
use Rattle.vk_group.specs.declared.message.TheConstants.{GET_REPLY, GROUP_SEND, READY, RESULT}

pub ready_is : (count : ℕ) → request_in ready_message count ≡ requests.Ready 0
ready_is count = refl

pub result_is : (b : Bool) → request_in (result_message b) MESSAGE_BYTES ≡ requests.Result b
result_is true = refl
result_is false = refl

pub ready_no_result : (n : ℕ) (b : Bool) → requests.Ready n ≡ requests.Result b → ⊥
ready_no_result n b e = cc

pub result_no_send : (b : Bool) (dest : ℕ) → requests.Result b ≡ requests.GroupSend dest → ⊥
result_no_send b dest e = cc

pub ready_segment : segment_of ready_message ≡ range_of 0 MESSAGE_BYTES
ready_segment = refl

-- what brings bytes has them
abbrev is_send : Message → Bool
is_send m = kind_of m == GROUP_SEND && lends m && takes m

abbrev is_result : Message → Bool
is_result m = kind_of m == RESULT && lends m && (outcome_in m == 0 || outcome_in m == 1)

abbrev last_request : Message → ℕ → Request
last_request m count = if is_result m && count == MESSAGE_BYTES then requests.Result (outcome_in m == 0) else requests.Bad

abbrev late_request : Message → ℕ → Request
late_request m count = if kind_of m == READY && takes m then requests.Ready (place_of m) else last_request m count

abbrev other_request : Message → ℕ → Request
other_request m count = if kind_of m == GET_REPLY && takes m then requests.GetReply (place_of m) else late_request m count

reply_not : (n dest : ℕ) → requests.GetReply n ≡ requests.GroupSend dest → ⊥
reply_not n dest e = cc

ready_not : (n dest : ℕ) → requests.Ready n ≡ requests.GroupSend dest → ⊥
ready_not n dest e = cc

bad_not : (dest : ℕ) → requests.Bad ≡ requests.GroupSend dest → ⊥
bad_not dest e = cc

not_other : (m : Message) (count dest : ℕ) → other_request m count ≡ requests.GroupSend dest → ⊥
not_other m count dest =
    let P : Request → Type 0 = λ q. q ≡ requests.GroupSend dest → ⊥ in
    cond_both (kind_of m == GET_REPLY && takes m) (requests.GetReply (place_of m)) (late_request m count) P
    (λ t. reply_not (place_of m) dest)
    (λ f. cond_both (kind_of m == READY && takes m) (requests.Ready (place_of m)) (last_request m count) P
    (λ t. ready_not (place_of m) dest)
    (λ h. cond_both (is_result m && count == MESSAGE_BYTES) (requests.Result (outcome_in m == 0)) requests.Bad P
    (λ t. result_no_send (outcome_in m == 0) dest) (λ u. bad_not dest)))

pub send_count : (m : Message) (count dest : ℕ) → request_in m count ≡ requests.GroupSend dest → count ≡ MESSAGE_BYTES
send_count m count dest e = elim (cases_Bool (is_send m && count == MESSAGE_BYTES)) [
  | inl t ↦ eqb-true count MESSAGE_BYTES (and_parts (is_send m) (count == MESSAGE_BYTES) t).1
  | inr f ↦ absurd (not_other m count dest
      (sym (cond-false (is_send m && count == MESSAGE_BYTES) (requests.GroupSend (place_of m)) (other_request m count) f) ∙ e))
]

send_no_result : (n : ℕ) (b : Bool) → requests.GroupSend n ≡ requests.Result b → ⊥
send_no_result n b e = cc

reply_no_result : (n : ℕ) (b : Bool) → requests.GetReply n ≡ requests.Result b → ⊥
reply_no_result n b e = cc

bad_no_result : (b : Bool) → requests.Bad ≡ requests.Result b → ⊥
bad_no_result b e = cc

not_result : (m : Message) (count : ℕ) (b : Bool) → (is_result m && count == MESSAGE_BYTES) ≡ false →
    request_in m count ≡ requests.Result b → ⊥
not_result m count b f =
    let P : Request → Type 0 = λ q. q ≡ requests.Result b → ⊥ in
    cond_both (is_send m && count == MESSAGE_BYTES) (requests.GroupSend (place_of m)) (other_request m count) P
    (λ t. send_no_result (place_of m) b)
    (λ g. cond_both (kind_of m == GET_REPLY && takes m) (requests.GetReply (place_of m)) (late_request m count) P
    (λ t. reply_no_result (place_of m) b)
    (λ h. cond_both (kind_of m == READY && takes m) (requests.Ready (place_of m)) (last_request m count) P
    (λ t. ready_no_result (place_of m) b)
    (λ u x. bad_no_result b
    (sym (cond-false (is_result m && count == MESSAGE_BYTES) (requests.Result (outcome_in m == 0)) requests.Bad f) ∙ x))))

pub result_count : (m : Message) (count : ℕ) (b : Bool) → request_in m count ≡ requests.Result b → count ≡ MESSAGE_BYTES
result_count m count b e = elim (cases_Bool (is_result m && count == MESSAGE_BYTES)) [
  | inl t ↦ eqb-true count MESSAGE_BYTES (and_parts (is_result m) (count == MESSAGE_BYTES) t).1
  | inr f ↦ absurd (not_result m count b f e)
]
