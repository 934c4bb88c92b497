-- What a line of a report is of, as the code has it.
use Rattle.std.specs.Prelude.{option_map}
use Rattle.rr_trip.specs.Report.{Subject}
use Rattle.rr_trip.specs.declared.report.Partner.{Partner}
use Rattle.rr_trip.specs.declared.subject.LineSubject.{LineSubject}
use Rattle.rr_trip.specs.declared.subject.SubjectPartner.{SubjectPartner}

-- the key in B
abbrev pub partner_in : SubjectPartner → Partner
partner_in partner = record { key = partner.key.now; has_other_title = partner.has_other_title }

-- what a line is of
abbrev pub subject_in : LineSubject → Subject
subject_in subject = record {
  key = subject.key.now;
  a = subject.a.now;
  b = subject.b.now;
  partner = option_map partner_in subject.partner;
}
