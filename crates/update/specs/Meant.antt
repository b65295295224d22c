-- What the code's values stand for. Assumes nothing.
use Rattle.std.specs.Prelude.{ℕ, Some, None, Option}
use Rattle.attributes.specs.Meaning.{no_fault}
use Rattle.fault.specs.Fault.{code}
use Rattle.fault.specs.declared.Fault.{Fault}
use Rattle.route.specs.Meant.{asns_of, communities_of}
use Rattle.std.specs.Option.{option_map}
use Rattle.update.specs.Finding.{Found, types_in}
use Rattle.update.specs.Update.{Attributes, Content, Announces, Withdraws, Faulty}
use Rattle.update.specs.declared.Attributes.{Attributes as StoredAttributes}
use Rattle.update.specs.declared.Content.{Content as StoredContent}
use Rattle.update.specs.declared.Content.TheVariants as a_content
use Rattle.update.specs.declared.finding.Found.{Found as StoredFound}

abbrev pub fault_number : Option Fault → ℕ
fault_number None = no_fault
fault_number (Some f) = code f

abbrev pub found_of : StoredFound → Found
found_of f = record { types = types_in f.seen.types; fault = fault_number f.fault; path = option_map asns_of f.path; next_hop = f.has_next_hop; med = f.med; communities = communities_of f.communities }

abbrev pub attributes_meant : StoredAttributes → Attributes
attributes_meant a = record { path = asns_of a.path; med = a.med; communities = communities_of a.communities }

abbrev pub content_meant : StoredContent → Content
content_meant (a_content.Announces a) = Announces (attributes_meant a)
content_meant a_content.Withdraws = Withdraws
content_meant (a_content.Faulty f) = Faulty (code f)
