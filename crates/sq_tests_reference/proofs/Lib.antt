mod KindsLemmas
